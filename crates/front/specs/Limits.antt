-- The limits of document 01, 'From readings to symbols', by name: each stands here once, and once as a const of src/. Believed.
-- Assumes nothing.
use Rattle.std.specs.Prelude.{ℕ}

-- 'A block has 1 to 864 readings.'
abbrev pub most_readings : ℕ
most_readings = 864

-- 'held within -127 to 127'
abbrev pub furthest : ℕ
furthest = 127
