-- How the structs of the C face say what the operations' definitions say. Believed, beside the definition of each operation. What the front
-- end's struct means is in Fronts. Assumes nothing.
use Rattle.desk.specs.Desk.{Reply, Handed}
use Rattle.codes.specs.declared.table.Code as codes
use Rattle.plumtassel.specs.declared.Code.{Code}
use Rattle.plumtassel.specs.declared.Answer.{Answer}

-- a code and the caller's struct of it, field by field
abbrev pub code_of : Code → codes.Code
code_of c = record { outputs = c.outputs; memory = c.memory; generators = c.generators }

abbrev pub face_code : codes.Code → Code
face_code c = record { outputs = c.outputs; memory = c.memory; generators = c.generators }

-- what an operation replies, value by value: a size is the length. 'Values not named in a row are 0.'
abbrev pub answer_of : Reply → Answer
answer_of r = record { number = r.number; metric = r.metric; steps = r.steps; length = r.size }

-- and the buffers, or both of them, as they are then
abbrev pub faced : {Buffers : Type 0} → Handed Buffers → Answer × Buffers
faced h = (answer_of h.reply, h.buffers)
