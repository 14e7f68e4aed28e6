-- Law 9, the answer in the reader's words: a verdict is an answer exactly if one message alone has the least metric, E is at most B and
-- D(E) at most R; then it carries that message, its metric and E. Assumes nothing.
use mathlib.Core.Path.{◌≡◌, refl, sym, ap, ◌∙◌, subst}
use mathlib.Core.Logic.{◌⊎◌, inl, inr}
use mathlib.Core.List.{List, [], ◌∷◌}
use Prim.Native.Nat.{ℕ, ◌≤◌}
use native.Mathlib.Omega.{arith}
use Rattle.lists.proofs.Membership.{◌∈◌, here, singleton_out, only_member, map_in, map_out}
use Rattle.lists.proofs.Least.{least_le, least_of}
use Rattle.lists.proofs.Unique.{length_within}
use Rattle.trellis.specs.Trellis.{Trellis}
use Rattle.trellis.specs.Verdict.{steps, met, messages, least_metric, least_messages, answered, decided, verdict}
use Rattle.trellis.proofs.Messages.{metric_of, Least, least_messages_in, least_messages_out, least_messages_unique}
use Rattle.trellis.proofs.Verdicts.{Full, Spent, Known, verdict_ways, verdict_found}

-- ---- in words

-- one message alone has the least metric
pub record Alone (t : Trellis) (w : List ℕ) : Type 0 where
  pub member : w ∈ messages t
  -- no other has one as small
  pub only : (v : List ℕ) → v ∈ messages t → metric_of t v ≤ metric_of t w → v ≡ w

-- and there is room and allowance enough to see it
pub record Answerable (t : Trellis) (room allowance : ℕ) (w : List ℕ) : Type 0 where
  pub alone : Alone t w
  -- E ≤ B
  pub allowed : steps t ≤ allowance
  -- D(E) ≤ R
  pub roomy : met t (steps t) ≤ room

-- ---- the least messages are that one

-- no message has a metric below the least
least_below : (t : Trellis) {w : List ℕ} → w ∈ messages t → least_metric t ≤ metric_of t w
unfolding least_metric
least_below t m = least_le _ (map_in (metric_of t) m)

module _ {t : Trellis} {w : List ℕ} where
  -- its metric is the least
  pub alone_paid : Alone t w → metric_of t w ≡ least_metric t
  unfolding least_metric
  alone_paid a =
      let v = map_out (metric_of t) (messages t) (least_of (map_in (metric_of t) a.member)) in
      let e : v.source ≡ w = a.only v.source v.member (omega (arith, v.equal, least_below t a.member)) in
      ap (metric_of t) (sym e) ∙ sym v.equal

  -- and it is the only least message
  pub alone_in : Alone t w → least_messages t ≡ w ∷ []
  alone_in a =
      only_member (least_messages t) (least_messages_in (record { member = a.member; paid = alone_paid a }))
      (length_within (least_messages t) (w ∷ []) (least_messages_unique t) (λ v m. here (within v (least_messages_out t m))))
    where
      within : (v : List ℕ) → Least t v → v ≡ w
      within v k = a.only v k.member (omega (arith, k.paid, alone_paid a))

-- and back
alone_out : (t : Trellis) {w : List ℕ} → least_messages t ≡ w ∷ [] → Alone t w
alone_out t {w} e =
    let k : Least t w = least_messages_out t (subst (λ (l : List (List ℕ)). w ∈ l) (sym e) (here refl)) in
    record {
      member = k.member;
      only = (λ v m h.
          let p : metric_of t v ≡ least_metric t = omega (arith, k.paid, least_below t m) in
          singleton_out (subst (λ (l : List (List ℕ)). v ∈ l) e (least_messages_in (record { member = m; paid = p }))));
    }

-- ---- exactly if

module _ {t : Trellis} {room allowance : ℕ} where
  -- where one message alone has the least metric and can be seen to, it is the answer
  pub answered_in : {w : List ℕ} → Answerable t room allowance w → verdict t room allowance ≡ answered w (metric_of t w) (steps t)
  unfolding decided
  answered_in {w} a =
      verdict_found t room allowance a.allowed a.roomy
      ∙ ap (decided t) (alone_in a.alone)
      ∙ ap (λ (m : ℕ). answered w m (steps t)) (sym (alone_paid a.alone))

-- and nothing else is
pub record Answer (t : Trellis) (room allowance : ℕ) (w : List ℕ) (m done : ℕ) : Type 0 where
  pub answerable : Answerable t room allowance w
  pub paid : m ≡ metric_of t w
  pub ended : done ≡ steps t

-- for whoever reads an answer: what it carries is right
pub answered_out : (t : Trellis) (room allowance : ℕ) (w : List ℕ) (m done : ℕ) → verdict t room allowance ≡ answered w m done
    → Answer t room allowance w m done
unfolding decided
answered_out t room allowance w m done h = go (verdict_ways t room allowance)
  where
    last : (l : List (List ℕ)) → least_messages t ≡ l → Known t room allowance → decided t l ≡ answered w m done → Answer t room allowance w m done
    last [] e f p = let z : ◌≡◌ {A = ℕ} 0 1 = cc (p) in absurd (omega arith)
    last (v ∷ []) e f p =
        let same : v ≡ w = cc (p) in
        let least : least_metric t ≡ m = cc (p) in
        let alone : Alone t w = alone_out t (e ∙ ap (λ (x : List ℕ). x ∷ []) same) in
        record {
          answerable = record { alone = alone; allowed = f.allowed; roomy = f.roomy };
          paid = sym least ∙ sym (alone_paid alone);
          ended = cc (p);
        }
    last (v ∷ u ∷ more) e f p = let z : ◌≡◌ {A = ℕ} 0 1 = cc (p) in absurd (omega arith)

    go : Full t room allowance ⊎ (Spent t room allowance ⊎ Known t room allowance) → Answer t room allowance w m done
    go (inl f) = let z : ◌≡◌ {A = ℕ} 0 1 = cc (f.told, h) in absurd (omega arith)
    go (inr (inl f)) = let z : ◌≡◌ {A = ℕ} 0 1 = cc (f.told, h) in absurd (omega arith)
    go (inr (inr f)) = last (least_messages t) refl f (sym f.told ∙ h)
