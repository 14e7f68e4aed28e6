-- Law 9, the refusals in the reader's words. 3: the steps are the greatest j with D(j) at most R. 4: B is below E, and D(B) at most R.
-- 5: exactly if two messages have the least metric, E is at most B and D(E) at most R; it carries that metric and E. The answer is in
-- Answered. Assumes nothing.
use mathlib.Core.Path.{◌≡◌, refl, sym, ap, subst, ◌∙◌}
use mathlib.Core.Logic.{◌⊎◌, inl, inr}
use mathlib.Core.List.{List, [], ◌∷◌}
use Prim.Native.Nat.{ℕ, ◌≤◌, ◌<◌, min}
use native.Mathlib.Omega.{arith}
use lib.ListN.{length}
use Rattle.lists.proofs.Membership.{◌∈◌, here, further, singleton_out}
use Rattle.lists.proofs.Unique.{Unique}
use Rattle.trellis.specs.Trellis.{Trellis}
use Rattle.trellis.specs.Verdict.{steps, met, least_metric, least_messages, room_short, allowance_spent, tied, last_fit, decided, verdict}
use Rattle.trellis.specs.Lawful.{Lawful}
use Rattle.trellis.proofs.Messages.{Least, least_messages_in, least_messages_out, least_messages_unique, least_messages_some}
use Rattle.trellis.proofs.LastFit.{last_fit_none, last_fit_fits, last_fit_greatest}
use Rattle.trellis.proofs.Verdicts.{Full, Spent, Known, verdict_ways, verdict_found}

-- two answers differ where their cases do
decided_room : (t : Trellis) (l : List (List ℕ)) (j : ℕ) → decided t l ≡ room_short j → ⊥
unfolding decided
decided_room t [] j h = let z : ◌≡◌ {A = ℕ} 0 1 = cc (h) in omega arith
decided_room t (w ∷ []) j h = let z : ◌≡◌ {A = ℕ} 0 1 = cc (h) in omega arith
decided_room t (w ∷ v ∷ more) j h = let z : ◌≡◌ {A = ℕ} 0 1 = cc (h) in omega arith

decided_allowance : (t : Trellis) (l : List (List ℕ)) (j : ℕ) → decided t l ≡ allowance_spent j → ⊥
unfolding decided
decided_allowance t [] j h = let z : ◌≡◌ {A = ℕ} 0 1 = cc (h) in omega arith
decided_allowance t (w ∷ []) j h = let z : ◌≡◌ {A = ℕ} 0 1 = cc (h) in omega arith
decided_allowance t (w ∷ v ∷ more) j h = let z : ◌≡◌ {A = ℕ} 0 1 = cc (h) in omega arith

-- ---- 3

-- 'the greatest j with D(j) at most R, or 0 if none'
pub record Greatest (t : Trellis) (room j : ℕ) : Type 0 where
  -- it fits, where any does
  pub fits : (k : ℕ) → met t k ≤ room → met t j ≤ room
  -- none that fits is greater
  pub most : (k : ℕ) → met t k ≤ room → k ≤ j
  -- it is 0 where none fits
  pub none : ((k : ℕ) → met t k ≤ room → ⊥) → j ≡ 0

-- 'If D(s) > R the answer is 3.'
pub record NoRoom (t : Trellis) (room allowance j : ℕ) : Type 0 where
  pub above : room < met t (min (steps t) allowance)
  pub greatest : Greatest t room j

-- for the reader of refusal 3: these are the steps that it hands back
pub room_short_out : (t : Trellis) (room allowance j : ℕ) → verdict t room allowance ≡ room_short j → NoRoom t room allowance j
room_short_out t room allowance j h = go (verdict_ways t room allowance)
  where
    s : ℕ
    s = min (steps t) allowance

    go : Full t room allowance ⊎ (Spent t room allowance ⊎ Known t room allowance) → NoRoom t room allowance j
    go (inl f) =
        let own : last_fit t room s ≡ j = cc (f.told, h) in
        record {
          above = f.above;
          greatest = subst (Greatest t room) own (record {
            fits = last_fit_fits t room s;
            most = (λ k. last_fit_greatest t room s k f.above);
            none = last_fit_none t room s;
          });
        }
    go (inr (inl f)) = let z : ◌≡◌ {A = ℕ} 0 1 = cc (f.told, h) in absurd (omega arith)
    go (inr (inr f)) = absurd (decided_room t (least_messages t) j (sym f.told ∙ h))

-- ---- 4

-- 'Otherwise, if B < E, it is 4', with 'steps B'
pub record NoAllowance (t : Trellis) (room allowance j : ℕ) : Type 0 where
  pub short : allowance < steps t
  -- D(B) ≤ R
  pub roomy : met t allowance ≤ room
  pub done : j ≡ allowance

-- for the reader of refusal 4
pub allowance_spent_out : (t : Trellis) (room allowance j : ℕ) → verdict t room allowance ≡ allowance_spent j → NoAllowance t room allowance j
allowance_spent_out t room allowance j h = go (verdict_ways t room allowance)
  where
    go : Full t room allowance ⊎ (Spent t room allowance ⊎ Known t room allowance) → NoAllowance t room allowance j
    go (inl f) = let z : ◌≡◌ {A = ℕ} 0 1 = cc (f.told, h) in absurd (omega arith)
    go (inr (inl f)) = record { short = f.short; roomy = f.roomy; done = cc (f.told, h) }
    go (inr (inr f)) = absurd (decided_allowance t (least_messages t) j (sym f.told ∙ h))

-- ---- 5

-- two messages have the least metric
pub record Shared (t : Trellis) : Type 0 where
  pub one : List ℕ
  pub other : List ℕ
  pub one_least : Least t one
  pub other_least : Least t other
  pub apart : one ≡ other → ⊥

-- and there is room and allowance enough to see it
pub record Tie (t : Trellis) (room allowance : ℕ) : Type 0 where
  pub shared : Shared t
  -- E ≤ B
  pub allowed : steps t ≤ allowance
  -- D(E) ≤ R
  pub roomy : met t (steps t) ≤ room

-- where two messages share the least metric and can be seen to, the block is tied
pub tied_in : {t : Trellis} {room allowance : ℕ} → Tie t room allowance → verdict t room allowance ≡ tied (least_metric t) (steps t)
unfolding decided
tied_in {t} {room} {allowance} h =
    let s = h.shared in
    verdict_found t room allowance h.allowed h.roomy ∙ go (least_messages t) (least_messages_in s.one_least) (least_messages_in s.other_least)
  where
    go : (l : List (List ℕ)) → h.shared.one ∈ l → h.shared.other ∈ l → decided t l ≡ tied (least_metric t) (steps t)
    go [] a b = refl
    go (w ∷ []) a b = absurd (h.shared.apart (singleton_out a ∙ sym (singleton_out b)))
    go (w ∷ v ∷ more) a b = refl

-- and no other block is
pub record Tied (t : Trellis) (room allowance m done : ℕ) : Type 0 where
  pub tie : Tie t room allowance
  pub least : m ≡ least_metric t
  pub ended : done ≡ steps t

-- for the reader of refusal 5: what it hands back is right
pub tied_out : {t : Trellis} → Lawful t → (room allowance m done : ℕ) → verdict t room allowance ≡ tied m done → Tied t room allowance m done
unfolding decided
tied_out {t} law room allowance m done h = go (verdict_ways t room allowance)
  where
    two : {w v : List ℕ} {more : List (List ℕ)} → least_messages t ≡ w ∷ v ∷ more → Shared t
    two {w} {v} {more} e = record {
      one = w;
      other = v;
      one_least = least_messages_out t (subst (λ (l : List (List ℕ)). w ∈ l) (sym e) (here refl));
      other_least = least_messages_out t (subst (λ (l : List (List ℕ)). v ∈ l) (sym e) (further (here refl)));
      apart = (λ p. (subst Unique e (least_messages_unique t)).0 (here p));
    }

    last : (l : List (List ℕ)) → least_messages t ≡ l → Known t room allowance → decided t l ≡ tied m done → Tied t room allowance m done
    last [] e f p = absurd (omega (arith, ap length e, least_messages_some law))
    last (w ∷ []) e f p = let z : ◌≡◌ {A = ℕ} 0 1 = cc (p) in absurd (omega arith)
    last (w ∷ v ∷ more) e f p =
        record { tie = record { shared = two e; allowed = f.allowed; roomy = f.roomy }; least = cc (p); ended = cc (p) }

    go : Full t room allowance ⊎ (Spent t room allowance ⊎ Known t room allowance) → Tied t room allowance m done
    go (inl f) = let z : ◌≡◌ {A = ℕ} 0 1 = cc (f.told, h) in absurd (omega arith)
    go (inr (inl f)) = let z : ◌≡◌ {A = ℕ} 0 1 = cc (f.told, h) in absurd (omega arith)
    go (inr (inr f)) = last (least_messages t) refl f (sym f.told ∙ h)
