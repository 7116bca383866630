-- What a run leaves in a cell.
use Rattle.std.specs.Prelude.{Option, Some, None, Result, Ok, Err}
use Rattle.phase_bits.specs.declared.phase.Phase.{Phase}
use Rattle.phase_seq.specs.declared.init_error.InitError.{InitError}

-- the value after a call of the sequentializer
abbrev pub filled : {T : Type 0} → Result (Phase × Option T) InitError → Option T → Option T
filled (Ok (p, Some v)) old = Some v
filled (Ok (p, None)) old = old
filled (Err e) old = old

-- the phase that it told
abbrev pub phase_told : {T : Type 0} → Result (Phase × Option T) InitError → Result Phase InitError
phase_told (Ok d) = Ok d.0
phase_told (Err e) = Err e

-- ---- after a call that took a lock

-- the value
abbrev pub put_in : {T K : Type 0} → Result (K × Phase × Option T) InitError → Option T → Option T
put_in (Ok (t, p, Some v)) old = Some v
put_in (Ok (t, p, None)) old = old
put_in (Err e) old = old

-- the lock, and the phase at which it is held
abbrev pub entered : {T K : Type 0} → Result (K × Phase × Option T) InitError → Result (K × Phase) InitError
entered (Ok d) = Ok (d.0, d.1)
entered (Err e) = Err e

-- the phase that is published next: that at which a writer holds the lock
abbrev pub next_after : {K : Type 0} → Result (K × Phase) InitError → Option Phase → Option Phase
next_after (Ok d) next = Some d.1
next_after (Err e) next = next
