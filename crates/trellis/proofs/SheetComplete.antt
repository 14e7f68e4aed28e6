-- Law 7, completeness: where one message alone has the least metric, the honest sheet has A to D.
-- The idea: a rival to an early part of the message's path, put in its place, would be a rival to the whole path; so every early
-- part is the only one of its metric to its node. Assumes nothing.
use mathlib.Core.Path.{◌≡◌, refl, sym, ap, ◌∙◌, subst}
use mathlib.Core.List.{List, [], ◌∷◌, map}
use mathlib.Core.Bool.{true}
use Prim.Native.Nat.{ℕ, ◌+◌, ◌≤◌, ◌<◌}
use native.Mathlib.Decide.{dec_lt}
use native.Mathlib.Omega.{arith}
use lib.Dec.{T}
use Rattle.lists.proofs.Membership.{◌∈◌, here, further, singleton_out}
use Rattle.lists.proofs.Tests.{true_out}
use Rattle.trellis.specs.Trellis.{Trellis, Path, Node, ends, along, metric, end_node, terminal, cost}
use Rattle.trellis.specs.Verdict.{Entry, entry, priced, path_of, least_metric, least_messages, onto}
use Rattle.trellis.specs.Sheet.{carries, honest}
use Rattle.trellis.specs.Lawful.{Allowed, start, step, Lawful, Ends}
use Rattle.trellis.proofs.Paths.{ends_here, node_path}
use Rattle.trellis.proofs.Cost.{Cost, cost_is, cost_origin}
use Rattle.trellis.proofs.Recurrence.{Enters, extend, metric_extend, cost_enters}
use Rattle.trellis.proofs.Order.{mark}
use Rattle.trellis.proofs.Ranked.{Priced}
use Rattle.trellis.proofs.Messages.{Least, least_messages_out, path_of_ends, least_metric_cost, least_messages_paths}
use Rattle.trellis.proofs.Honest.{Honest, honest_is}
use Rattle.trellis.proofs.SheetTests.{AllBranches, Onward, Dearer, Clear, Carries, carries_test}
use Rattle.trellis.proofs.Parts.{parts, parts_metric, parts_allowed}

-- ---- rivals

-- a path with its early part exchanged for another to the same node
record Exchanged (t : Trellis) (own p q : Path) : Type 0 where
  path : Path
  there : Ends t (end_node t own) path
  paid : metric t path + metric t p ≡ metric t own + metric t q
  back : path ≡ own → q ≡ p

module _ {t : Trellis} {p q : Path} (rival : Ends t (end_node t p) q) where
  -- the whole path exchanged, and then any part of it
  exchange_whole : (own : Path) → p ≡ own → Exchanged t own p q
  exchange_whole own e = record {
    path = q;
    there = subst (λ (x : Path). Ends t (end_node t x) q) e rival;
    paid = rw e (omega arith);
    back = (λ k. k ∙ sym e);
  }

  exchange : {own : Path} → Allowed t own → p ∈ parts own → Exchanged t own p q
  unfolding ends along
  exchange start m = exchange_whole [] (singleton_out m)
  exchange (step {b = a} {p = own} u al) (here e) = exchange_whole (a ∷ own) e
  exchange (step {b = a} {p = own} u al) (further m) =
      let x : Exchanged t own p q = exchange al m in
      record {
        path = a ∷ x.path;
        there = extend x.there (record { fits = u; leads = refl });
        paid = omega (arith, x.paid, metric_extend a x.there);
        back = (λ k. x.back (cc));
      }

-- ---- one path alone

module _ {t : Trellis} {own : Path} (al : Allowed t own)
    (alone : (q : Path) → Ends t (end_node t own) q → metric t q ≤ metric t own → q ≡ own) where
  -- its parts are alone too
  alone_part : (p q : Path) → p ∈ parts own → Ends t (end_node t p) q → metric t q ≤ metric t p → q ≡ p
  alone_part p q part rival h =
      let x : Exchanged t own p q = exchange rival al part in
      x.back (alone x.path x.there (omega (arith, x.paid)))

  -- and their metrics are costs
  cost_part : (p : Path) → p ∈ parts own → Cost t (end_node t p) (metric t p)
  cost_part p part = record {
    path = p;
    there = ends_here (parts_allowed al part);
    paid = refl;
    least = (λ q h. go q h (dec_lt (metric t q) (metric t p)));
  }
    where
      go : (q : Path) → Ends t (end_node t p) q → Dec (metric t q < metric t p) → metric t p ≤ metric t q
      go q h (no n) = omega arith
      go q h (yes n) = let e : metric t q ≡ metric t p = ap (metric t) (alone_part p q part h (omega arith)) in omega arith

  module _ {sheet : List Entry} (own_sheet : Honest t (metric t own) sheet) where
    -- C
    listed : (p : Path) → p ∈ parts own → mark t p ∈ sheet
    listed p part = own_sheet.all (mark t p) (record { priced = cost_part p part; within = parts_metric t own part })

    -- D: a branch as cheap as the path's own would make a rival of its last part
    dearer : (a : ℕ) (p : Path) → (a ∷ p) ∈ parts own → AllBranches t sheet (Dearer t a p)
    dearer a p part e member b u enters apart = go (own_sheet.only e member).priced (dec_lt (metric t (a ∷ p)) (onto t e b).cost)
      where
        go : Priced t e → Dec (metric t (a ∷ p) < (onto t e b).cost) → metric t (a ∷ p) < (onto t e b).cost
        go c (yes h) = h
        go c (no h) =
            let rival : Ends t (end_node t (a ∷ p)) (b ∷ c.path) = extend c.there (record { fits = u; leads = sym enters }) in
            let k : (b ∷ c.path) ≡ (a ∷ p) =
            alone_part (a ∷ p) (b ∷ c.path) part rival (omega (arith, metric_extend b c.there, c.paid)) in
            let early : c.path ≡ p = cc in
            let latest : b ≡ a = cc in
            absurd (apart (sym c.there.state ∙ ap (ends t) early, latest))

    -- D, at every node of the path
    clear : (p : Path) → p ∈ parts own → Clear t sheet p
    clear [] part = tt
    clear (a ∷ p) part = dearer a p part

    -- B: the branch goes on from a least path, so the node that it enters costs no more
    onward : AllBranches t sheet (Onward t (metric t own) sheet)
    onward e member b u h =
        let x : Node = (onto t e b).node in
        let enters : Enters t x e.node b = record { fits = u; leads = refl } in
        let c : Cost t x (cost t x) = cost_is (extend (own_sheet.only e member).priced.there enters) in
        let low : cost t x ≤ (onto t e b).cost = cost_enters c (own_sheet.only e member).priced enters in
        record { cost = cost t x; here = own_sheet.all (priced t x) (record { priced = c; within = omega arith }); small = low }

    -- A to D together
    pub honest_carries : Carries t (metric t own) sheet own
    honest_carries = record {
      begun = own_sheet.all (entry 0 0 0) (record { priced = cost_origin t; within = omega arith });
      onward = onward;
      listed = listed;
      paid = refl;
      clear = clear;
    }

-- ---- messages

module _ {t : Trellis} (law : Lawful t) {w : List ℕ} (one : least_messages t ≡ w ∷ []) where
  -- the only least message
  least_one : Least t w
  least_one = least_messages_out t (subst (λ (l : List (List ℕ)). w ∈ l) (sym one) (here refl))

  -- its path ends in the terminal
  there : Ends t (terminal t) (path_of t w)
  there = path_of_ends law least_one.member

  -- another path to the terminal that costs no more would be a least message's
  alone : (q : Path) → Ends t (end_node t (path_of t w)) q → metric t q ≤ metric t (path_of t w) → q ≡ path_of t w
  alone q h low =
      let at : Ends t (terminal t) q = subst (λ (x : Node). Ends t x q) (node_path there.level there.state) h in
      let paid : metric t q ≡ least_metric t = omega (arith, (least_metric_cost law).least q at, least_one.paid) in
      let r = (least_messages_paths law).full q at paid in
      singleton_out (subst (λ (l : List (List ℕ)). q ∈ map (path_of t) l) one r)

  -- for the decoder that writes a sheet: the check accepts what it writes
  pub sheet_complete : carries t (least_metric t) (honest t (least_metric t)) (path_of t w) ≡ true
  sheet_complete =
      let own : Path = path_of t w in
      true_out (carries t (least_metric t) (honest t (least_metric t)) own)
      (subst (λ (m : ℕ). T (carries t m (honest t m) own)) least_one.paid
      ((carries_test t (metric t own) (honest t (metric t own)) own).into (honest_carries there.allowed alone (honest_is t (metric t own)))))
