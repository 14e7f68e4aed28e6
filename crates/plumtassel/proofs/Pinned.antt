-- Two results that the contract of a function of the face allows for one input are equal: the struct handed back and every byte of every
-- output buffer. Working memory counts by its size alone, so they are equal whatever it held. Assumes nothing.
use mathlib.Core.Path.{◌≡◌, sym, ap, ◌∙◌}
use mathlib.Core.List.{List}
use Prim.Native.Nat.{ℕ}
use lib.IntN.{ℤ}
use lib.ListN.{length}
use lib.Ieee.{Float}
use Rattle.codes.specs.Codes.{house_code}
use Rattle.codes.specs.Encoding.{encoding}
use Rattle.search.specs.Decoding.{decoding}
use Rattle.sheets.specs.Checking.{checking}
use Rattle.writer.specs.Sheeting.{sheeting}
use Rattle.plumtassel.specs.Face.{code_of, face_code, faced}
use Rattle.plumtassel.specs.Fronts.{struct_fronting, reported}
use Rattle.plumtassel.specs.declared.Code.{Code}
use Rattle.plumtassel.specs.declared.Answer.{Answer}
use Rattle.plumtassel.specs.declared.FrontEnd.{FrontEnd}
use Rattle.plumtassel.specs.declared.Report.{Report}

-- two pairs that equal one
parts_pinned : {A B : Type 0} {r r' : A} {out out' : B} {d : A × B} → (r, out) ≡ d → (r', out') ≡ d → (r ≡ r') × (out ≡ out')
parts_pinned {A} {B} h h' = let e = h ∙ sym h' in (ap (λ (x : A × B). x.0) e, ap (λ (x : A × B). x.1) e)

pub house_pinned : (row : ℕ) (r r' : Code) → r ≡ face_code (house_code row) → r' ≡ face_code (house_code row) → r ≡ r'
house_pinned row r r' h h' = h ∙ sym h'

pub encode_pinned : (c : Code) (message out : List ℕ) (r r' : Answer) (exit exit' : List ℕ) → (r, exit) ≡ faced (encoding (code_of c) message out)
    → (r', exit') ≡ faced (encoding (code_of c) message out) → (r ≡ r') × (exit ≡ exit')
encode_pinned c message out r r' exit exit' h h' = parts_pinned h h'

pub decode_pinned : (c : Code) (l : ℕ) (symbols : List ℤ) (room allowance : ℕ) (work work' message : List ℕ) (r r' : Answer) (exit exit' : List ℕ)
    → length work ≡ length work' → (r, exit) ≡ faced (decoding (code_of c) l symbols room allowance (length work) message)
    → (r', exit') ≡ faced (decoding (code_of c) l symbols room allowance (length work') message) → (r ≡ r') × (exit ≡ exit')
decode_pinned c l symbols room allowance work work' message r r' exit exit' e h h' = parts_pinned (rw e at h) h'

pub decode_sheet_pinned : (c : Code) (l : ℕ) (symbols : List ℤ) (room allowance : ℕ) (work work' message sheet : List ℕ) (r r' : Answer)
    (exit exit' written written' : List ℕ) → length work ≡ length work'
    → (r, (exit, written)) ≡ faced (sheeting (code_of c) l symbols room allowance (length work) message sheet)
    → (r', (exit', written')) ≡ faced (sheeting (code_of c) l symbols room allowance (length work') message sheet)
    → (r ≡ r') × (exit ≡ exit') × (written ≡ written')
decode_sheet_pinned c l symbols room allowance work work' message sheet r r' exit exit' written written' e h h' =
    let q = parts_pinned (rw e at h) h' in (q.0, ap (λ (x : List ℕ × List ℕ). x.0) q.1, ap (λ (x : List ℕ × List ℕ). x.1) q.1)

pub check_pinned : (c : Code) (l : ℕ) (symbols : List ℤ) (sheet message : List ℕ) (r r' : Answer) (exit exit' : List ℕ)
    → (r, exit) ≡ faced (checking (code_of c) l symbols sheet message) → (r', exit') ≡ faced (checking (code_of c) l symbols sheet message)
    → (r ≡ r') × (exit ≡ exit')
check_pinned c l symbols sheet message r r' exit exit' h h' = parts_pinned h h'

pub front_pinned : (f : FrontEnd) (readings : List Float) (symbols : List ℤ) (r r' : Report) (exit exit' : List ℤ)
    → (r, exit) ≡ reported (struct_fronting f readings symbols) → (r', exit') ≡ reported (struct_fronting f readings symbols)
    → (r ≡ r') × (exit ≡ exit')
front_pinned f readings symbols r r' exit exit' h h' = parts_pinned h h'
