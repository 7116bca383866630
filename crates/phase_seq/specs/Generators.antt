-- What generators promise.
use Rattle.std.specs.Prelude.{Result, Ok, Err}
use Rattle.phase_seq.specs.declared.generator.InitFault.{InitFault}

-- the default value of the type was made
abbrev pub MakesDefault : {T : Type 0} → (T → Type 0) → Result T InitFault → Type 0
MakesDefault is_default (Ok v) = is_default v
MakesDefault is_default (Err e) = ⊥
