-- What `LawfulCode::new` may answer for a code is one thing alone, and what a caller has of it. Assumes nothing.
use mathlib.Core.Path.{◌≡◌, refl, sym, ap, ◌∙◌}
use mathlib.Core.Bool.{true, false, true≢false}
use Rattle.std.proofs.Common.{Option, Some, None}
use Rattle.std.specs.Prelude.{Result, Ok, Err, ok_or}
use Rattle.std.specs.Option.{MatchOption, option_map}
use Rattle.codes.specs.Codes.{lawful}
use Rattle.codes.specs.declared.table.Code.{Code}
use Rattle.codes.specs.declared.table.LawfulCode.{LawfulCode}

-- what its contract says
abbrev pub Made : Code → Option LawfulCode → Type 0
Made c r = MatchOption r (lawful c ≡ false) (λ kept. kept.code ≡ c)

-- a code outside the rules is no lawful one
kept_not_refused : (c : Code) (m : LawfulCode) → lawful c ≡ false → m.code ≡ c → true ≡ false
kept_not_refused c m h e = sym m.rules ∙ ap lawful e ∙ h

-- two allowed answers have one code
pub lawful_pinned : (c : Code) (r r' : Option LawfulCode) → Made c r → Made c r' → option_map (λ m. m.code) r ≡ option_map (λ m. m.code) r'
lawful_pinned c None None h h' = refl
lawful_pinned c None (Some m) h e = absurd (true≢false (kept_not_refused c m h e))
lawful_pinned c (Some m) None e h = absurd (true≢false (kept_not_refused c m h e))
lawful_pinned c (Some m) (Some m') e e' = ap Some (e ∙ sym e')

-- ---- for `LawfulCode::new(code).ok_or(..)?`

module _ {E : Type 0} (c : Code) (o : Option LawfulCode) (b : E) (made : Made c o) where
  -- none is the refusal
  pub unlawful : (e : E) → ◌≡◌ {A = Result LawfulCode E} (Err e) (ok_or o b) → (lawful c ≡ false) × (e ≡ b)
  unlawful = none o made
    where
      none : (o : Option LawfulCode) → Made c o → (e : E) → ◌≡◌ {A = Result LawfulCode E} (Err e) (ok_or o b) → (lawful c ≡ false) × (e ≡ b)
      none None h e q = (h, cc)
      none (Some m) h e q = absurd (cc)

  -- and a lawful one is that code
  pub same_code : (m : LawfulCode) → ◌≡◌ {A = Result LawfulCode E} (Ok m) (ok_or o b) → m.code ≡ c
  same_code = some o made
    where
      some : (o : Option LawfulCode) → Made c o → (m : LawfulCode) → ◌≡◌ {A = Result LawfulCode E} (Ok m) (ok_or o b) → m.code ≡ c
      some None h m q = absurd (cc)
      some (Some n) h m q = let e : m ≡ n = cc in rw e h
