-- A computed test decides a statement: how tests put together by 'and', 'or', all and any decide what they are read as.
-- One proof then gives both directions, in and out. Assumes nothing.
use mathlib.Core.Path.{◌≡◌, sym, subst}
use mathlib.Core.List.{List}
use mathlib.Core.Bool.{Bool, true, false, not, ◌&&◌, ◌||◌}
use Prim.Native.Nat.{ℕ, ◌≤◌, ◌<◌}
use lib.Dec.{T, eqb, ltb, leb, eqb→eq, eqb_refl, ltb→lt, lt→ltb, leb→le, le→leb}
use Rattle.lists.specs.Lists.{all, any}
use Rattle.lists.proofs.Tests.{and_in, and_out, true_out, false_out}
use Rattle.lists.proofs.Membership.{◌∈◌, Every, all_in, all_out, any_in, any_out}

-- the test passes exactly if the statement holds
pub record Decides (test : Bool) (P : Type 0) : Type 0 where
  pub out : T test → P
  pub into : P → T test

-- for a statement that reads better: the same, said otherwise
pub said : {a : Bool} {P Q : Type 0} → Decides a P → (P → Q) → (Q → P) → Decides a Q
said d f g = record { out = (λ h. f (d.out h)); into = (λ q. d.into (g q)) }

-- for a program's test in the place of a definition's: two tests of one statement are the same
pub agree : {a b : Bool} {P : Type 0} → Decides a P → Decides b P → a ≡ b
agree {a = true} {b = b} d e = sym (true_out b (e.into (d.out tt)))
agree {a = false} {b = b} d e = sym (false_out b (λ h. d.into (e.out h)))

-- where the statement is known to fail
pub decided_no : {a : Bool} {P : Type 0} → Decides a P → (P → ⊥) → a ≡ false
decided_no {a} d n = false_out a (λ h. n (d.out h))

-- for a test that is its own statement
pub itself : (a : Bool) → Decides a (T a)
itself a = record { out = (λ h. h); into = (λ h. h) }

-- for 'and': one statement and the other
pub together : {a b : Bool} {P Q : Type 0} → Decides a P → Decides b Q → Decides (a && b) (P × Q)
together {a} {b} d e = record {
  out = (λ h. let r = and_out a b h in (d.out r.0, e.out r.1));
  into = (λ h. and_in a b (d.into h.0) (e.into h.1));
}

-- for 'or': where the first statement fails, the second
pub either : {a b : Bool} {P Q : Type 0} → Decides a P → Decides b Q → Decides (a || b) (¬ P → Q)
either {a} {b} {P} {Q} d e = record { out = go a d.out; into = come a d.into }
  where
    go : (a : Bool) → (T a → P) → T (a || b) → ¬ P → Q
    go true f h n = absurd (n (f tt))
    go false f h n = e.out h

    come : (a : Bool) → (P → T a) → (¬ P → Q) → T (a || b)
    come true f h = tt
    come false f h = e.into (h (λ p. f p))

-- for 'not .. or .. or ..': where the first statement holds and the second fails, the third
pub whenever : {a b c : Bool} {P Q R : Type 0} → Decides a P → Decides b Q → Decides c R → Decides (not a || b || c) (P → ¬ Q → R)
whenever {a} {b} {c} {P} {Q} {R} d e f = record { out = go a b d.into e.out; into = come a b d.out e.into }
  where
    go : (a b : Bool) → (P → T a) → (T b → Q) → T (not a || b || c) → P → ¬ Q → R
    go true true i o h p n = absurd (n (o tt))
    go true false i o h p n = f.out h
    go false true i o h p n = absurd (i p)
    go false false i o h p n = absurd (i p)

    come : (a b : Bool) → (T a → P) → (Q → T b) → (P → ¬ Q → R) → T (not a || b || c)
    come true true o i h = tt
    come true false o i h = f.into (h (o tt) (λ q. i q))
    come false true o i h = tt
    come false false o i h = tt

module _ {A : Type 0} {P : A → Type 0} {p : A → Bool} (d : (a : A) → Decides (p a) (P a)) where
  -- for all: a statement of every member
  pub each : (l : List A) → Decides (all p l) (Every P l)
  each l = record { out = (λ h a m. (d a).out (all_out p l h a m)); into = (λ h. all_in p l (λ a m. (d a).into (h a m))) }

  -- for any: a statement of some member
  pub some : (l : List A) → Decides (any p l) ((a : A) × (a ∈ l) × P a)
  some l = record {
    out = (λ h. let r = any_out p l h in (r.which, r.member, (d r.which).out r.passes));
    into = (λ r. any_in p r.1 ((d r.0).into r.2));
  }

-- ---- the tests of numbers

-- for =
pub equal : (a b : ℕ) → Decides (eqb a b) (a ≡ b)
equal a b = record { out = eqb→eq a b; into = (λ e. subst (λ (x : ℕ). T (eqb a x)) e (eqb_refl a)) }

-- for <
pub less : (a b : ℕ) → Decides (ltb a b) (a < b)
less a b = record { out = ltb→lt a b; into = lt→ltb a b }

-- for ≤
pub at_most : (a b : ℕ) → Decides (leb a b) (a ≤ b)
at_most a b = record { out = leb→le a b; into = le→leb a b }
