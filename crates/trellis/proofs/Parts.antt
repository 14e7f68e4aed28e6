-- For law 7: the early parts of a path, itself and what is left of it as its latest branches are taken off. Assumes nothing.
use mathlib.Core.Path.{◌≡◌, refl, ap, subst}
use mathlib.Core.List.{List, [], ◌∷◌}
use Prim.Native.Nat.{ℕ, ◌≤◌}
use native.Mathlib.Omega.{arith}
use Rattle.lists.proofs.Membership.{◌∈◌, here, further, singleton_out}
use Rattle.trellis.specs.Trellis.{Trellis, Path, along, metric}
use Rattle.trellis.specs.Lawful.{Allowed, start, step}

-- the early parts of a path, itself and the empty one included
abbrev pub parts : Path → List Path
parts [] = [] ∷ []
parts (a ∷ p) = (a ∷ p) ∷ parts p

-- to start with the path itself
pub parts_whole : (p : Path) → p ∈ parts p
parts_whole [] = here refl
parts_whole (a ∷ p) = here refl

-- to go down a path from its end
pub parts_earlier : (own : Path) {a : ℕ} {p : Path} → (a ∷ p) ∈ parts own → p ∈ parts own
parts_earlier [] {a} {p} m = let e : (a ∷ p) ≡ [] = singleton_out m in let z : ◌≡◌ {A = ℕ} 0 1 = cc in absurd (omega arith)
parts_earlier (b ∷ own) {a} {p} (here e) = let k : own ≡ p = cc in further (subst (λ (q : Path). q ∈ parts own) k (parts_whole own))
parts_earlier (b ∷ own) (further m) = further (parts_earlier own m)

-- for M: metrics do not fall along a path
pub parts_metric : (t : Trellis) (own : Path) {p : Path} → p ∈ parts own → metric t p ≤ metric t own
unfolding along
parts_metric t [] m = let e = ap (metric t) (singleton_out m) in omega arith
parts_metric t (a ∷ own) (here e) = let k = ap (metric t) e in omega arith
parts_metric t (a ∷ own) (further m) = omega (arith, parts_metric t own m)

-- for reachability: a part of an allowed path is allowed
pub parts_allowed : {t : Trellis} {own p : Path} → Allowed t own → p ∈ parts own → Allowed t p
parts_allowed start m = rw (singleton_out m) start
parts_allowed (step h al) (here e) = rw e (step h al)
parts_allowed (step h al) (further m) = parts_allowed al m
