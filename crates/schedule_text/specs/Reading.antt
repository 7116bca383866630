-- What reading a text answers.
use Rattle.std.specs.Prelude.{◌≡◌}
use Rattle.schedule_text.specs.declared.read.ReadError.{ReadError}
use Rattle.schedule_text.specs.declared.read.ReadError.TheVariants as errors

-- the error is want of memory
abbrev pub IsMemory : ReadError → Type 0
IsMemory errors.Memory = Unit {0}
IsMemory (errors.BadLine n) = ⊥

-- the number of a bad line is 0
abbrev pub IsUnnumbered : ReadError → Type 0
IsUnnumbered errors.Memory = Unit {0}
IsUnnumbered (errors.BadLine n) = n ≡ 0
