-- What a call answers with: the phase, the value, or a guard.
use Rattle.std.specs.Prelude.{Bool, true, false, not}
use Rattle.lazy_cells.specs.Kinds.{is_plain}
use Rattle.lazy_cells.specs.declared.kind.Kind.{Kind}
use Rattle.lazy_cells.specs.declared.call.Call.{Call}
use Rattle.lazy_cells.specs.declared.call.Call.TheVariants as call
use Rattle.schedule_rules.specs.declared.form.Form.{Form}
use Rattle.schedule_rules.specs.declared.form.Form.TheVariants.{Told, Shown, Held}

-- the form of a call of cells of this kind. An init of a plain kind does not test access
abbrev pub form_of : Kind → Call → Form
form_of q call.Phase = Told false
form_of q call.TryGet = Shown
form_of q call.Get = Shown
form_of q call.Init = Told (not (is_plain q))
form_of q call.Read = Held false false
form_of q call.Write = Held true false
form_of q call.FastRead = Held false false
form_of q call.FastWrite = Held true false
form_of q call.TryRead = Held false false
form_of q call.TryWrite = Held true false
form_of q call.FastTryRead = Held false false
form_of q call.FastTryWrite = Held true false
form_of q call.PrimedRead = Held false true
form_of q call.PrimedWrite = Held true true
form_of q call.PrimedReadNonInitializing = Held false true
form_of q call.PrimedWriteNonInitializing = Held true true

-- it is a guard that reads
abbrev pub is_to_read : Form → Bool
is_to_read (Told tests) = false
is_to_read Shown = false
is_to_read (Held writes falls_back) = not writes

-- where the value may not be accessed, the call is told so
abbrev pub denies : Form → Bool
denies (Told tests) = tests
denies Shown = true
denies (Held writes falls_back) = not falls_back
