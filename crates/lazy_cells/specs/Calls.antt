-- The calls of each kind, and what each asks of the sequentializer. The nature of lock that a call wants at a phase, and
-- whether it asks for a run there, follow from that by `nature_of` and `asks_run` of the sequentializer.
use Rattle.std.specs.Prelude.{Bool, true, false, not, if◌then◌else◌, Option, Some, None}
use Rattle.phase_seq.specs.declared.tolerance.Tolerance.{Tolerance}
use Rattle.phase_seq.specs.declared.ask.Want.{Want}
use Rattle.phase_seq.specs.declared.ask.Want.TheVariants as want
use Rattle.phase_seq.specs.declared.ask.Ask.{Ask}
use Rattle.lazy_cells.specs.declared.kind.Kind.{Kind}
use Rattle.lazy_cells.specs.declared.call.Call.{Call}
use Rattle.lazy_cells.specs.declared.call.Call.TheVariants as call
use Rattle.lazy_cells.specs.Kinds.{is_plain, is_primed}

-- cells of this kind have this call
abbrev pub has_call : Kind → Call → Bool
has_call k call.Phase = true
has_call k call.TryGet = is_plain k
has_call k call.Get = is_plain k
has_call k call.Init = true
has_call k call.Read = not (is_plain k)
has_call k call.Write = not (is_plain k)
has_call k call.FastRead = not (is_plain k)
has_call k call.FastWrite = not (is_plain k)
has_call k call.TryRead = not (is_plain k)
has_call k call.TryWrite = not (is_plain k)
has_call k call.FastTryRead = not (is_plain k)
has_call k call.FastTryWrite = not (is_plain k)
has_call k call.PrimedRead = is_primed k
has_call k call.PrimedWrite = is_primed k
has_call k call.PrimedReadNonInitializing = is_primed k
has_call k call.PrimedWriteNonInitializing = is_primed k

-- what a call seeks of the cell: nothing, where it looks at the cell as it is
abbrev pub seeks : Kind → Call → Option Want
seeks k call.Phase = None
seeks k call.TryGet = None
seeks k call.Get = Some want.Init
seeks k call.Init = Some (if is_plain k then want.Init else want.Write)
seeks k call.Read = Some want.Read
seeks k call.Write = Some want.Write
seeks k call.FastRead = Some want.Read
seeks k call.FastWrite = Some want.Write
seeks k call.TryRead = Some want.ReadOnly
seeks k call.TryWrite = Some want.WriteOnly
seeks k call.FastTryRead = Some want.ReadOnly
seeks k call.FastTryWrite = Some want.WriteOnly
seeks k call.PrimedRead = Some want.Read
seeks k call.PrimedWrite = Some want.Write
seeks k call.PrimedReadNonInitializing = Some want.ReadOnly
seeks k call.PrimedWriteNonInitializing = Some want.WriteOnly

-- a call that does not wait
abbrev pub is_fast : Call → Bool
is_fast call.FastRead = true
is_fast call.FastWrite = true
is_fast call.FastTryRead = true
is_fast call.FastTryWrite = true
is_fast _ = false

-- what is sought is asked
abbrev pub asking : Option Want → Bool → Tolerance → Option Ask
asking None fast t = None
asking (Some w) fast t = Some (record { want = w; fast = fast; tol = t })

-- what a call asks: nothing, where it seeks nothing
abbrev pub ask_of : Kind → Call → Tolerance → Option Ask
ask_of k c t = asking (seeks k c) (is_fast c) t
