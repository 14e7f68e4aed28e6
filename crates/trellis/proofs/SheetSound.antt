-- Law 7, soundness: a sheet that has A to D, whoever wrote it, carries its claim. Its message is the only one of least metric.
-- The idea: by A and B every path within the metric ends at a listed node, at a cost no higher than its metric; so a rival that
-- joins the message's path would join it by a branch from an entry, and D makes each of those too dear.
-- Entries need not be reachable, sorted or unique. That honest sheets are accepted is in SheetComplete. Assumes nothing.
use mathlib.Core.Path.{◌≡◌, refl, sym, ap, ap₂, ◌∙◌, subst}
use mathlib.Core.List.{List, [], ◌∷◌}
use mathlib.Core.Bool.{true}
use Prim.Native.Nat.{ℕ, ◌+◌, ◌≤◌, ◌<◌}
use native.Mathlib.Nat.{suc_inj}
use native.Mathlib.Decide.{ℕ_discrete, dec_lt}
use native.Mathlib.Omega.{arith}
use lib.ListN.{length}
use Rattle.lists.proofs.Tests.{true_in}
use Rattle.lists.proofs.Membership.{◌∈◌, here, nil_out, every_cons}
use Rattle.trellis.specs.Trellis.{Trellis, Path, Node, terminal, ends, along, metric, end_node}
use Rattle.trellis.specs.Verdict.{Entry, messages, path_of, least_metric, least_messages, onto}
use Rattle.trellis.specs.Sheet.{carries}
use Rattle.trellis.specs.Lawful.{Allowed, start, step, Lawful, Ends}
use Rattle.trellis.proofs.Paths.{node_path}
use Rattle.trellis.proofs.Cost.{Cost, LeastPaths}
use Rattle.trellis.proofs.Messages.{message_of_path_of, path_of_ends, least_metric_is, least_messages_one}
use Rattle.trellis.proofs.Parts.{parts, parts_whole, parts_earlier, parts_metric}
use Rattle.trellis.proofs.SheetTests.{Listed, Carries, carries_test}

-- ---- paths

module _ (t : Trellis) (m : ℕ) (sheet : List Entry) (own : Path) (ok : Carries t m sheet own) where
  -- from A and B: every path within the metric ends at a listed node
  covered : {p : Path} → Allowed t p → metric t p ≤ m → Listed sheet (end_node t p) (metric t p)
  unfolding ends along
  covered start h = record { cost = 0; here = ok.begun; small = omega arith }
  covered (step {b = b} {p = p} u al) h =
      let i : Listed sheet (end_node t p) (metric t p) = covered al (omega arith) in
      let from : Entry = record { cost = i.cost; node = end_node t p } in
      let k : Listed sheet (end_node t (b ∷ p)) (onto t from b).cost = ok.onward from i.here b u (omega (arith, i.small)) in
      record { cost = k.cost; here = k.here; small = omega (arith, k.small, i.small) }

  -- from D: a path to a node of the message's path that costs no more is a part of it
  sole : (p : Path) {q : Path} → p ∈ parts own → Allowed t q → length q ≡ length p → ends t q ≡ ends t p → metric t q ≤ metric t p → q ≡ p
  unfolding ends along
  sole [] part start l s h = refl
  sole [] part (step u al) l s h = absurd (omega arith)
  sole (a ∷ p) part start l s h = absurd (omega arith)
  sole (a ∷ p) part (step {b = b} {p = q} u al) l s h =
      go (ℕ_discrete (ends t q) (ends t p)) (ℕ_discrete b a) (sole p (parts_earlier own part) al (suc_inj l))
    where
      other : ¬ ((ends t q ≡ ends t p) × (b ≡ a)) → ⊥
      other apart =
          let paid : metric t own ≡ m = ok.paid in
          let i : Listed sheet (end_node t q) (metric t q) = covered al (omega (arith, parts_metric t own part)) in
          let z : metric t (a ∷ p) < i.cost + t.price (length q) (ends t q) b =
          ok.clear (a ∷ p) part (record { cost = i.cost; node = end_node t q }) i.here b u (node_path l s) apart in
          omega (arith, i.small)

      go : Dec (ends t q ≡ ends t p) → Dec (b ≡ a) → (ends t q ≡ ends t p → metric t q ≤ metric t p → q ≡ p) → (b ∷ q) ≡ (a ∷ p)
      go (yes x) (yes y) ih =
          let e : t.price (length q) (ends t q) b ≡ t.price (length p) (ends t p) a = cc (suc_inj l) in
          ap₂ (λ (u : ℕ) (v : Path). u ∷ v) y (ih x (omega arith))
      go (yes x) (no y) ih = absurd (other (λ h. y h.1))
      go (no x) (yes y) ih = absurd (other (λ h. x h.0))
      go (no x) (no y) ih = absurd (other (λ h. x h.0))

  -- no other path to the same node costs as little
  pub sheet_sole : {q : Path} → Ends t (end_node t own) q → metric t q ≤ m → q ≡ own
  sheet_sole q h = sole own (parts_whole own) q.allowed q.level q.state (omega (arith, ok.paid))

-- ---- messages

-- the message is the only one of least metric, and m is that metric
pub record OnlyLeast (t : Trellis) (m : ℕ) (w : List ℕ) : Type 0 where
  pub metric : least_metric t ≡ m
  pub message : least_messages t ≡ w ∷ []

-- for the check: who wrote the sheet does not matter
pub sheet_sound : {t : Trellis} → Lawful t → {m : ℕ} (sheet : List Entry) {w : List ℕ} → w ∈ messages t → carries t m sheet (path_of t w) ≡ true → OnlyLeast t m w
sheet_sound {t} law {m} sheet {w} member accepted = record {
  metric = least_metric_is law least;
  message = least_messages_one law least paths ∙ ap (λ (v : List ℕ). v ∷ []) (message_of_path_of t w);
}
  where
    ok : Carries t m sheet (path_of t w)
    ok = (carries_test t m sheet (path_of t w)).out (true_in (carries t m sheet (path_of t w)) accepted)

    there : Ends t (terminal t) (path_of t w)
    there = path_of_ends law member

    sole_there : (q : Path) → Ends t (terminal t) q → metric t q ≤ m → q ≡ path_of t w
    sole_there q at h = sheet_sole t m sheet (path_of t w) ok (subst (λ (x : Node). Ends t x q) (node_path (sym there.level) (sym there.state)) at) h

    least : Cost t (terminal t) m
    least = record { path = path_of t w; there = there; paid = ok.paid; least = (λ q at. low q at (dec_lt (metric t q) m)) }
      where
        low : (q : Path) → Ends t (terminal t) q → Dec (metric t q < m) → m ≤ metric t q
        low q at (no n) = omega arith
        low q at (yes n) = let e : metric t q ≡ metric t (path_of t w) = ap (metric t) (sole_there q at (omega arith)) in omega (arith, ok.paid)

    paths : LeastPaths t (terminal t) m (path_of t w ∷ [])
    paths = record {
      once = (λ k. nil_out k, tt);
      there = every_cons (Ends t (terminal t)) there (λ q k. absurd (nil_out k));
      paid = every_cons (λ q. metric t q ≡ m) ok.paid (λ q k. absurd (nil_out k));
      full = (λ q at e. here (sole_there q at (omega arith)));
    }
