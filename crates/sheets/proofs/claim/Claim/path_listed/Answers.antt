-- `Claim::path_listed` meets its contract: the chain asks every level of the path. Assumes nothing.
use mathlib.Core.Path.{◌≡◌, refl, sym, ap, ap₂, ◌∙◌}
use mathlib.Core.List.{List, [], ◌∷◌}
use mathlib.Core.Bool.{Bool, ◌&&◌}
use Prim.Native.Nat.{ℕ, suc, ◌+◌}
use native.Mathlib.Nat.{add-zero, zero-add}
use native.Mathlib.Omega.{arith}
use lib.Dec.{eqb}
use lib.ListN.{length}
use Rattle.std.specs.List.{list_all, enumerate_from}
use Rattle.std.proofs.Common.{rules, tests}
use Rattle.std.proofs.lemmas.Iterator.{YieldsList-from_slice}
use Rattle.std.proofs.lemmas.Iterator.Consumers.{YieldsList-from_enumerate}
use Rattle.std.proofs.lemmas.Iterator.Search.{all_from_yields_List}
use Rattle.lists.specs.Lists.{all}
use Rattle.trellis.specs.Trellis.{node}
use Rattle.blocks.specs.Walks.{visit_at}
use Rattle.blocks.specs.declared.walk.Visit.{Visit}
use Rattle.sheets.specs.Bytes.{series}
use Rattle.sheets.specs.Work.{entries_in, listed_cost, some_and, on_path}
use Rattle.sheets.proofs.Series.{series_same}
use Rattle.sheets.proofs.claim.Claim.path_listed.Goals as goal

-- a test of the visits in turn, each with its level
numbered : (p : ℕ → Visit → Bool) (whole path : List Visit) (from : ℕ) → ((k : ℕ) → visit_at whole (from + k) ≡ visit_at path k)
    → list_all (λ q. p q.0 q.1) (enumerate_from from path) ≡ all (λ j. p j (visit_at whole j)) (series (length path) (λ k. from + k))
unfolding all series
numbered p whole [] from h = refl
numbered p whole (v ∷ path) from h =
    let here : p from v ≡ p (from + 0) (visit_at whole (from + 0)) =
    ap (p from) (sym (h 0)) ∙ ap (λ (j : ℕ). p j (visit_at whole (from + 0))) (sym (add-zero from)) in
    let e : (k : ℕ) → from + 1 + k ≡ from + suc k = λ k. omega arith in
    ap₂ (λ (a b : Bool). a && b) here
    (numbered p whole path (from + 1) (λ k. ap (visit_at whole) (e k) ∙ h (suc k))
    ∙ ap (all (λ j. p j (visit_at whole j))) (series_same (length path) _ _ (λ k l. e k)))

all_visits : (p : ℕ → Visit → Bool) (path : List Visit)
    → list_all (λ q. p q.0 q.1) (enumerate_from 0 path) ≡ all (λ j. p j (visit_at path j)) (series (length path) (λ j. j))
all_visits p path =
    numbered p path path 0 (λ k. ap (visit_at path) (zero-add k))
    ∙ ap (all (λ j. p j (visit_at path j))) (series_same (length path) _ _ (λ k l. zero-add k))

pub returns : goal.returns
returns c =
    let s = c.args.self.now in
    let test : ℕ × Visit → Bool = λ p. some_and (listed_cost (entries_in s.entries.now) (node p.0 p.1.state)) (λ d. eqb d p.1.metric) in
    all_from_yields_List test _ _ _ c.all.ensures.ran (YieldsList-from_enumerate (YieldsList-from_slice s.path.now cc) (cc)) (λ x b q k. search (rules, tests))
    ∙ all_visits (λ j v. test (j, v)) s.path.now
    ∙ ap (λ (n : ℕ). all (on_path (entries_in s.entries.now) s.path.now) (series n (λ j. j))) s.sound.visits
