-- What the forms of calls seek, and what is left to what seeks that.
use Rattle.phase_moves.proofs.Words.{arith, ◌≡◌, Bool, true, false, Some, Option, Sought, Call, Kind, call_seeks, Form, form_of, is_to_read}
use Rattle.phase_moves.proofs.Words.{takes_none, takes_write}

-- a call of this form may seek this
abbrev pub seeks_as : Form → Option Sought → Bool
seeks_as f (Some Sought.Read) = is_to_read f
seeks_as f (Some Sought.Write) = takes_write f
seeks_as f (Some Sought.ReadOnly) = is_to_read f
seeks_as f (Some Sought.WriteOnly) = takes_write f
seeks_as f (Some Sought.Finalize) = false
seeks_as f _ = takes_none f

pub sought_as : (q : Kind) (k : Call) → seeks_as (form_of q k) (call_seeks q k) ≡ true
sought_as q k = grind (arith)

-- what is left to what seeks this: no lock, a lock to read, or the lock to write
abbrev pub gets_none : Sought → Bool
gets_none Sought.Init = true
gets_none Sought.Finalize = true
gets_none _ = false

abbrev pub gets_read : Sought → Bool
gets_read Sought.Read = true
gets_read Sought.ReadOnly = true
gets_read _ = false

abbrev pub gets_write : Sought → Bool
gets_write Sought.Write = true
gets_write Sought.WriteOnly = true
gets_write _ = false
