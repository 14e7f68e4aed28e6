-- Lists of numbers grown by one number at the front: which they are, and that none comes twice. The paths of a trellis and its
-- messages are made so. Assumes nothing.
use mathlib.Core.Path.{◌≡◌}
use mathlib.Core.List.{List, ◌∷◌, map, flat_map}
use Prim.Native.Nat.{ℕ, ◌<◌}
use Rattle.lists.specs.Lists.{below}
use Rattle.lists.proofs.Membership.{◌∈◌, map_in, map_out, flat_map_in, flat_map_out, below_in, below_out}
use Rattle.lists.proofs.Unique.{Unique, map_unique, flat_map_unique, below_unique}

-- every list of ps, each number below n put before it
abbrev pub grown : ℕ → List (List ℕ) → List (List ℕ)
grown n ps = flat_map (λ p. map (λ b. b ∷ p) (below n)) ps

-- where a grown list comes from
pub record Grown (n : ℕ) (ps : List (List ℕ)) (q : List ℕ) : Type 0 where
  pub first : ℕ
  pub rest : List ℕ
  pub fits : first < n
  pub member : rest ∈ ps
  pub equal : q ≡ first ∷ rest

-- the members are the lists with one number more
pub grown_in : (n : ℕ) {ps : List (List ℕ)} {b : ℕ} {p : List ℕ} → b < n → p ∈ ps → (b ∷ p) ∈ grown n ps
grown_in n {p = p} h m = flat_map_in (λ p. map (λ b. b ∷ p) (below n)) m (map_in (λ b. b ∷ p) (below_in n h))

-- and no others
pub grown_out : (n : ℕ) (ps : List (List ℕ)) {q : List ℕ} → q ∈ grown n ps → Grown n ps q
grown_out n ps m =
    let r = flat_map_out (λ p. map (λ b. b ∷ p) (below n)) ps m in
    let s = map_out (λ b. b ∷ r.source) (below n) r.inner in
    record { first = s.source; rest = r.source; fits = below_out n s.member; member = r.member; equal = s.equal }

-- so that paths and messages can be counted
pub grown_unique : (n : ℕ) (ps : List (List ℕ)) → Unique ps → Unique (grown n ps)
grown_unique n ps u =
    flat_map_unique (λ p. map (λ b. b ∷ p) (below n)) ps
    (λ p. map_unique (λ b. b ∷ p) (below n) (λ a b m k e. cc e) (below_unique n))
    (λ p q r m k. same_rest p q r m k)
    u
  where
    same_rest : (p q r : List ℕ) → r ∈ map (λ b. b ∷ p) (below n) → r ∈ map (λ b. b ∷ q) (below n) → p ≡ q
    same_rest p q r m k =
        let s = map_out (λ b. b ∷ p) (below n) m in
        let s' = map_out (λ b. b ∷ q) (below n) k in
        cc (s.equal, s'.equal)
