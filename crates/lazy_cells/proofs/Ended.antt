-- What the calls on a locked cell promise, by what they keep of the lock with which they came in.
use Rattle.std.proofs.Common.{◌≡◌, Bool, true, false, Option, Result, refl, ap, ◌∙◌}
use Rattle.phase_bits.specs.declared.phase.Phase.{Phase}
use Rattle.phase_bits.specs.Number.{number}
use Rattle.phase_locker.specs.declared.tickets.ReadTicket.{ReadTicket}
use Rattle.phase_locker.specs.declared.tickets.WriteTicket.{WriteTicket}
use Rattle.phase_seq.specs.declared.generator.InitFault.{InitFault}
use Rattle.phase_seq.specs.declared.init_error.InitError.{InitError}
use Rattle.phase_seq.specs.declared.tolerance.Tolerance.{Tolerance}
use Rattle.std.specs.Prelude.{if◌then◌else◌}
use Rattle.lazy_cells.specs.Kinds.{is_within_reach}
use Rattle.lazy_cells.specs.Locked.{Locked, bars_read, bars_write, releases, publishes, downgrades, Entry, Barred, Enters, Calls, Tries}
use Rattle.lazy_cells.specs.Access.{say_read, say_write, say_init, say_primed_read, say_primed_write, left_read, left_write, left_init, left_primed_read, left_primed_write}
use Rattle.lazy_cells.specs.Guards.{to_read, to_write, in_to_read, in_to_write, kept, kept_phase, kept_primed, kept_primed_write, left_kept, left_published}
use Rattle.lazy_cells.specs.Sound.{IsSound}
use Rattle.lazy_cells.proofs.Keeping.{then_calls, then_tries, says_read, says_write, says_init, says_primed_read, says_primed_write, leaves_read, leaves_write, leaves_init, leaves_primed_read, leaves_primed_write}
use Rattle.lazy_cells.proofs.Sound.{IsFresh, StayFresh, sound_calls, sound_tries, read_quiet, write_quiet, keeps_read, keeps_write, keeps_init, keeps_primed_read, keeps_primed_write}

-- the cell stays
abbrev stays : {A B : Type 0} → A → B → B
stays a c = c

-- `hard` and `primed` are what the marker says of the value, and `b` is what the code was told of the first
module _ {T G P : Type 0} (hard primed b : Bool) (told : b ≡ hard) (old : Locked T G P) where
  module _ (att : G → Result T InitFault → G → Type 0) (t : Tolerance) (s : Option Phase) where
    pub read_calls : (r : Result (ReadTicket × Phase) InitError) (mid : Locked T G P) (r' : Result ReadTicket InitError) (new : Locked T G P) → r' ≡ kept b r → new ≡ left_kept releases b r mid → Calls att t s bars_read to_read in_to_read old r mid → Calls att t s bars_read (say_read hard) (left_read hard) old r' new
    read_calls r mid r' new er en c = then_calls att t s bars_read old to_read in_to_read (say_read hard) (left_read hard) (kept b) (left_kept releases b) (λ e. ap (λ (x : Bool). kept x (to_read e)) told ∙ says_read hard e) (λ e c. ap (λ (x : Bool). left_kept releases x (to_read e) (in_to_read e c)) told ∙ leaves_read hard e c) r mid r' new er en c

    pub write_calls : (r : Result (WriteTicket × Phase) InitError) (mid : Locked T G P) (r' : Result WriteTicket InitError) (new : Locked T G P) → r' ≡ kept b r → new ≡ left_kept publishes b r mid → Calls att t s bars_write to_write in_to_write old r mid → Calls att t s bars_write (say_write hard) (left_write hard) old r' new
    write_calls r mid r' new er en c = then_calls att t s bars_write old to_write in_to_write (say_write hard) (left_write hard) (kept b) (left_kept publishes b) (λ e. ap (λ (x : Bool). kept x (to_write e)) told ∙ says_write hard e) (λ e c. ap (λ (x : Bool). left_kept publishes x (to_write e) (in_to_write e c)) told ∙ leaves_write hard e c) r mid r' new er en c

    pub init_calls : (r : Result (WriteTicket × Phase) InitError) (mid : Locked T G P) (r' : Result Phase InitError) (new : Locked T G P) → r' ≡ kept_phase b r → new ≡ left_published r mid → Calls att t s bars_write to_write in_to_write old r mid → Calls att t s bars_write (say_init hard) left_init old r' new
    init_calls r mid r' new er en c = then_calls att t s bars_write old to_write in_to_write (say_init hard) left_init (kept_phase b) left_published (λ e. ap (λ (x : Bool). kept_phase x (to_write e)) told ∙ says_init hard e) leaves_init r mid r' new er en c

    pub primed_read_calls : (r : Result (ReadTicket × Phase) InitError) (mid : Locked T G P) (r' : Result (Result ReadTicket ReadTicket) InitError) (new : Locked T G P) → r' ≡ kept_primed b r → new ≡ mid → Calls att t s bars_read to_read in_to_read old r mid → Calls att t s bars_read (say_primed_read hard) left_primed_read old r' new
    primed_read_calls r mid r' new er en c = then_calls att t s bars_read old to_read in_to_read (say_primed_read hard) left_primed_read (kept_primed b) (λ r c. c) (λ e. ap (λ (x : Bool). kept_primed x (to_read e)) told ∙ says_primed_read hard e) leaves_primed_read r mid r' new er en c

    pub primed_write_calls : (r : Result (WriteTicket × Phase) InitError) (mid : Locked T G P) (r' : Result (Result WriteTicket ReadTicket) InitError) (new : Locked T G P) → r' ≡ kept_primed_write b r → new ≡ left_kept downgrades b r mid → Calls att t s bars_write to_write in_to_write old r mid → Calls att t s bars_write (say_primed_write hard) (left_primed_write hard) old r' new
    primed_write_calls r mid r' new er en c = then_calls att t s bars_write old to_write in_to_write (say_primed_write hard) (left_primed_write hard) (kept_primed_write b) (left_kept downgrades b) (λ e. ap (λ (x : Bool). kept_primed_write x (to_write e)) told ∙ says_primed_write hard e) (λ e c. ap (λ (x : Bool). left_kept downgrades x (to_write e) (in_to_write e c)) told ∙ leaves_primed_write hard e c) r mid r' new er en c

  pub read_tries : (r : Result (ReadTicket × Phase) InitError) (mid : Locked T G P) (r' : Result ReadTicket InitError) (new : Locked T G P) → r' ≡ kept b r → new ≡ left_kept releases b r mid → Tries bars_read to_read in_to_read old r mid → Tries bars_read (say_read hard) (left_read hard) old r' new
  read_tries r mid r' new er en c = then_tries bars_read old to_read in_to_read (say_read hard) (left_read hard) (kept b) (left_kept releases b) (λ e. ap (λ (x : Bool). kept x (to_read e)) told ∙ says_read hard e) (λ e c. ap (λ (x : Bool). left_kept releases x (to_read e) (in_to_read e c)) told ∙ leaves_read hard e c) r mid r' new er en c

  pub write_tries : (r : Result (WriteTicket × Phase) InitError) (mid : Locked T G P) (r' : Result WriteTicket InitError) (new : Locked T G P) → r' ≡ kept b r → new ≡ left_kept publishes b r mid → Tries bars_write to_write in_to_write old r mid → Tries bars_write (say_write hard) (left_write hard) old r' new
  write_tries r mid r' new er en c = then_tries bars_write old to_write in_to_write (say_write hard) (left_write hard) (kept b) (left_kept publishes b) (λ e. ap (λ (x : Bool). kept x (to_write e)) told ∙ says_write hard e) (λ e c. ap (λ (x : Bool). left_kept publishes x (to_write e) (in_to_write e c)) told ∙ leaves_write hard e c) r mid r' new er en c

  pub primed_read_tries : (r : Result (ReadTicket × Phase) InitError) (mid : Locked T G P) (r' : Result (Result ReadTicket ReadTicket) InitError) (new : Locked T G P) → r' ≡ kept_primed b r → new ≡ mid → Tries bars_read to_read in_to_read old r mid → Tries bars_read (say_primed_read hard) left_primed_read old r' new
  primed_read_tries r mid r' new er en c = then_tries bars_read old to_read in_to_read (say_primed_read hard) left_primed_read (kept_primed b) (λ r c. c) (λ e. ap (λ (x : Bool). kept_primed x (to_read e)) told ∙ says_primed_read hard e) leaves_primed_read r mid r' new er en c

  pub primed_write_tries : (r : Result (WriteTicket × Phase) InitError) (mid : Locked T G P) (r' : Result (Result WriteTicket ReadTicket) InitError) (new : Locked T G P) → r' ≡ kept_primed_write b r → new ≡ left_kept downgrades b r mid → Tries bars_write to_write in_to_write old r mid → Tries bars_write (say_primed_write hard) (left_primed_write hard) old r' new
  primed_write_tries r mid r' new er en c = then_tries bars_write old to_write in_to_write (say_primed_write hard) (left_primed_write hard) (kept_primed_write b) (left_kept downgrades b) (λ e. ap (λ (x : Bool). kept_primed_write x (to_write e)) told ∙ says_primed_write hard e) (λ e c. ap (λ (x : Bool). left_kept downgrades x (to_write e) (in_to_write e c)) told ∙ leaves_primed_write hard e c) r mid r' new er en c

-- ---- what is kept stays

module _ {T G P : Type 0} (hard primed : Bool) (old : Locked T G P) (k : IsSound hard primed old) where
  module _ (att : G → Result T InitFault → G → Type 0) (t : Tolerance) (s : Option Phase) (stay : IsFresh (number old.phase) → StayFresh s) where
    pub read_sound : (r : Result ReadTicket InitError) (new : Locked T G P) → Calls att t s bars_read (say_read hard) (left_read hard) old r new → IsSound hard primed new
    read_sound r new c = sound_calls hard primed bars_read read_quiet (say_read hard) (left_read hard) (keeps_read hard primed) old k r new att t s stay c

    pub write_sound : (r : Result WriteTicket InitError) (new : Locked T G P) → Calls att t s bars_write (say_write hard) (left_write hard) old r new → IsSound hard primed new
    write_sound r new c = sound_calls hard primed bars_write write_quiet (say_write hard) (left_write hard) (keeps_write hard primed) old k r new att t s stay c

    pub init_sound : (r : Result Phase InitError) (new : Locked T G P) → Calls att t s bars_write (say_init hard) left_init old r new → IsSound hard primed new
    init_sound r new c = sound_calls hard primed bars_write write_quiet (say_init hard) left_init (keeps_init hard primed) old k r new att t s stay c

    pub primed_read_sound : (always : primed ≡ true) → (r : Result (Result ReadTicket ReadTicket) InitError) (new : Locked T G P) → Calls att t s bars_read (say_primed_read hard) left_primed_read old r new → IsSound hard primed new
    primed_read_sound always r new c = sound_calls hard primed bars_read read_quiet (say_primed_read hard) left_primed_read (keeps_primed_read hard primed always) old k r new att t s stay c

    pub primed_write_sound : (always : primed ≡ true) → (r : Result (Result WriteTicket ReadTicket) InitError) (new : Locked T G P) → Calls att t s bars_write (say_primed_write hard) (left_primed_write hard) old r new → IsSound hard primed new
    primed_write_sound always r new c = sound_calls hard primed bars_write write_quiet (say_primed_write hard) (left_primed_write hard) (keeps_primed_write hard primed always) old k r new att t s stay c

  pub read_rests : (r : Result ReadTicket InitError) (new : Locked T G P) → Tries bars_read (say_read hard) (left_read hard) old r new → IsSound hard primed new
  read_rests r new c = sound_tries hard primed bars_read read_quiet (say_read hard) (left_read hard) (keeps_read hard primed) old k r new c

  pub write_rests : (r : Result WriteTicket InitError) (new : Locked T G P) → Tries bars_write (say_write hard) (left_write hard) old r new → IsSound hard primed new
  write_rests r new c = sound_tries hard primed bars_write write_quiet (say_write hard) (left_write hard) (keeps_write hard primed) old k r new c

  pub primed_read_rests : (always : primed ≡ true) → (r : Result (Result ReadTicket ReadTicket) InitError) (new : Locked T G P) → Tries bars_read (say_primed_read hard) left_primed_read old r new → IsSound hard primed new
  primed_read_rests always r new c = sound_tries hard primed bars_read read_quiet (say_primed_read hard) left_primed_read (keeps_primed_read hard primed always) old k r new c

  pub primed_write_rests : (always : primed ≡ true) → (r : Result (Result WriteTicket ReadTicket) InitError) (new : Locked T G P) → Tries bars_write (say_primed_write hard) (left_primed_write hard) old r new → IsSound hard primed new
  primed_write_rests always r new c = sound_tries hard primed bars_write write_quiet (say_primed_write hard) (left_primed_write hard) (keeps_primed_write hard primed always) old k r new c

-- ---- a call that takes the cell as it is leaves its phase

phase_if : {T G P : Type 0} (p : Phase) (b : Bool) (x y : Locked T G P) → x.phase ≡ p → y.phase ≡ p → (if b then x else y).phase ≡ p
phase_if p true x y ex ey = ex
phase_if p false x y ex ey = ey

module _ {T G P : Type 0} (hard : Bool) (old : Locked T G P) where
  same_phase : (leave : Entry → Locked T G P → Locked T G P) → leave Barred old ≡ old → (leave (Enters old.phase) old).phase ≡ old.phase → (b : Bool) → (leave (if b then Barred else Enters old.phase) old).phase ≡ old.phase
  same_phase leave eb ee true = ap (λ (c : Locked T G P). c.phase) eb
  same_phase leave eb ee false = ee

  pub read_stays : (r : Result ReadTicket InitError) (new : Locked T G P) → Tries bars_read (say_read hard) (left_read hard) old r new → new.phase ≡ old.phase
  read_stays r new c = ap (λ (x : Locked T G P). x.phase) c.left ∙ same_phase (left_read hard) refl (phase_if old.phase (is_within_reach hard old.phase) _ _ refl refl) (bars_read old)

  pub write_stays : (r : Result WriteTicket InitError) (new : Locked T G P) → Tries bars_write (say_write hard) (left_write hard) old r new → new.phase ≡ old.phase
  write_stays r new c = ap (λ (x : Locked T G P). x.phase) c.left ∙ same_phase (left_write hard) refl (phase_if old.phase (is_within_reach hard old.phase) _ _ refl refl) (bars_write old)

  pub primed_read_stays : (r : Result (Result ReadTicket ReadTicket) InitError) (new : Locked T G P) → Tries bars_read (say_primed_read hard) left_primed_read old r new → new.phase ≡ old.phase
  primed_read_stays r new c = ap (λ (x : Locked T G P). x.phase) c.left ∙ same_phase left_primed_read refl refl (bars_read old)

  pub primed_write_stays : (r : Result (Result WriteTicket ReadTicket) InitError) (new : Locked T G P) → Tries bars_write (say_primed_write hard) (left_primed_write hard) old r new → new.phase ≡ old.phase
  primed_write_stays r new c = ap (λ (x : Locked T G P). x.phase) c.left ∙ same_phase (left_primed_write hard) refl (phase_if old.phase (is_within_reach hard old.phase) _ _ refl refl) (bars_write old)
