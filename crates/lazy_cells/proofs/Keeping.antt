-- What a call on a locked cell answers and leaves, by what it keeps of its lock.
use Rattle.std.proofs.Common.{◌≡◌, ℕ, ◌+◌, ◌-◌, Bool, true, Option, Result, refl, sym, ap, ◌∙◌, subst, arith}
use Rattle.std.specs.Prelude.{if◌then◌else◌, ◌<◌, IfOk}
use Rattle.phase_locker.specs.declared.tickets.ReadTicket.{ReadTicket}
use Rattle.phase_locker.specs.declared.tickets.WriteTicket.{WriteTicket}
use Rattle.phase_bits.specs.declared.phase.Phase.{Phase}
use Rattle.phase_seq.specs.declared.generator.InitFault.{InitFault}
use Rattle.phase_seq.specs.declared.init_error.InitError.{InitError}
use Rattle.phase_seq.specs.declared.tolerance.Tolerance.{Tolerance}
use Rattle.lazy_cells.specs.Kinds.{is_within_reach}
use Rattle.lazy_cells.specs.Locked.{Locked, reads, rests, releases, publishes, downgrades, Entry, Barred, Fails, Enters, tried, Calls, Tries}
use Rattle.lazy_cells.specs.Access.{say_read, say_write, say_init, say_primed_read, say_primed_write, left_read, left_write, left_init, left_primed_read, left_primed_write}
use Rattle.lazy_cells.specs.Guards.{to_read, to_write, in_to_read, in_to_write, kept, kept_phase, kept_primed, kept_primed_write, left_kept, left_published}

module _ {T G P : Type 0} (att : G → Result T InitFault → G → Type 0) (t : Tolerance) (s : Option Phase) (bars : Locked T G P → Bool) (old : Locked T G P) where
  -- a call that goes on with what it answered, and with the cell that it left
  pub then_calls : {A B : Type 0} (say : Entry → A) (leave : Entry → Locked T G P → Locked T G P) (say' : Entry → B) (leave' : Entry → Locked T G P → Locked T G P) (f : A → B) (k : A → Locked T G P → Locked T G P)
      → ((e : Entry) → f (say e) ≡ say' e) → ((e : Entry) (c : Locked T G P) → k (say e) (leave e c) ≡ leave' e c)
      → (r : A) (mid : Locked T G P) (r' : B) (new : Locked T G P) → r' ≡ f r → new ≡ k r mid
      → Calls att t s bars say leave old r mid → Calls att t s bars say' leave' old r' new
  then_calls {A = A} say leave say' leave' f k says leaves r mid r' new er en c = record {
    entry = c.entry;
    made = c.made;
    comes = c.comes;
    answer = er ∙ ap f c.answer ∙ says c.entry;
    left = en ∙ ap (λ (z : A). k z mid) c.answer ∙ ap (k (say c.entry)) c.left ∙ leaves c.entry c.made;
  }

module _ {T G P : Type 0} (bars : Locked T G P → Bool) (old : Locked T G P) where
  -- the same, of a call that takes the cell as it is
  pub then_tries : {A B : Type 0} (say : Entry → A) (leave : Entry → Locked T G P → Locked T G P) (say' : Entry → B) (leave' : Entry → Locked T G P → Locked T G P) (f : A → B) (k : A → Locked T G P → Locked T G P)
      → ((e : Entry) → f (say e) ≡ say' e) → ((e : Entry) (c : Locked T G P) → k (say e) (leave e c) ≡ leave' e c)
      → (r : A) (mid : Locked T G P) (r' : B) (new : Locked T G P) → r' ≡ f r → new ≡ k r mid
      → Tries bars say leave old r mid → Tries bars say' leave' old r' new
  then_tries {A = A} say leave say' leave' f k says leaves r mid r' new er en c = record {
    answer = er ∙ ap f c.answer ∙ says (tried bars old);
    left = en ∙ ap (λ (z : A). k z mid) c.answer ∙ ap (k (say (tried bars old))) c.left ∙ leaves (tried bars old) old;
  }

-- ---- what is kept

add_sub : (n : ℕ) → n + 1 - 1 ≡ n
add_sub n = omega arith

pub says_read : (hard : Bool) (e : Entry) → kept hard (to_read e) ≡ say_read hard e
says_read hard Barred = refl
says_read hard (Fails p) = refl
says_read hard (Enters p) = refl

pub says_write : (hard : Bool) (e : Entry) → kept hard (to_write e) ≡ say_write hard e
says_write hard Barred = refl
says_write hard (Fails p) = refl
says_write hard (Enters p) = refl

pub says_init : (hard : Bool) (e : Entry) → kept_phase hard (to_write e) ≡ say_init hard e
says_init hard Barred = refl
says_init hard (Fails p) = refl
says_init hard (Enters p) = refl

pub says_primed_read : (hard : Bool) (e : Entry) → kept_primed hard (to_read e) ≡ say_primed_read hard e
says_primed_read hard Barred = refl
says_primed_read hard (Fails p) = refl
says_primed_read hard (Enters p) = refl

pub says_primed_write : (hard : Bool) (e : Entry) → kept_primed_write hard (to_write e) ≡ say_primed_write hard e
says_primed_write hard Barred = refl
says_primed_write hard (Fails p) = refl
says_primed_write hard (Enters p) = refl

module _ {T G P : Type 0} where
  released : (p : Phase) (c : Locked T G P) → releases (reads p c) ≡ rests p c
  released p c = ap (λ (n : ℕ). record (rests p c) { readers = n }) (add_sub c.readers)

  pub leaves_read : (hard : Bool) (e : Entry) (c : Locked T G P) → left_kept releases hard (to_read e) (in_to_read e c) ≡ left_read hard e c
  leaves_read hard Barred c = refl
  leaves_read hard (Fails p) c = refl
  leaves_read hard (Enters p) c = ap (λ (z : Locked T G P). if is_within_reach hard p then reads p c else z) (released p c)

  pub leaves_write : (hard : Bool) (e : Entry) (c : Locked T G P) → left_kept publishes hard (to_write e) (in_to_write e c) ≡ left_write hard e c
  leaves_write hard Barred c = refl
  leaves_write hard (Fails p) c = refl
  leaves_write hard (Enters p) c = refl

  pub leaves_init : (e : Entry) (c : Locked T G P) → left_published (to_write e) (in_to_write e c) ≡ left_init e c
  leaves_init Barred c = refl
  leaves_init (Fails p) c = refl
  leaves_init (Enters p) c = refl

  pub leaves_primed_read : (e : Entry) (c : Locked T G P) → in_to_read e c ≡ left_primed_read e c
  leaves_primed_read Barred c = refl
  leaves_primed_read (Fails p) c = refl
  leaves_primed_read (Enters p) c = refl

  pub leaves_primed_write : (hard : Bool) (e : Entry) (c : Locked T G P) → left_kept downgrades hard (to_write e) (in_to_write e c) ≡ left_primed_write hard e c
  leaves_primed_write hard Barred c = refl
  leaves_primed_write hard (Fails p) c = refl
  leaves_primed_write hard (Enters p) c = refl

-- ---- what is open

module _ {T G P : Type 0} where
  pub reads_in : (e : Entry) (c : Locked T G P) (r : Result (ReadTicket × Phase) InitError) (mid : Locked T G P) → r ≡ to_read e → mid ≡ in_to_read e c → IfOk r (λ _. 0 < mid.readers)
  reads_in e c r mid er em = subst (λ (z : Result (ReadTicket × Phase) InitError). IfOk z (λ _. 0 < mid.readers)) (sym er) (subst (λ (z : Locked T G P). IfOk (to_read e) (λ _. 0 < z.readers)) (sym em) (by e))
    where
      by : (x : Entry) → IfOk (to_read x) (λ _. 0 < (in_to_read x c).readers)
      by Barred = tt
      by (Fails p) = tt
      by (Enters p) = omega arith

  pub writes_in : (e : Entry) (c : Locked T G P) (r : Result (WriteTicket × Phase) InitError) (mid : Locked T G P) → r ≡ to_write e → mid ≡ in_to_write e c → IfOk r (λ _. mid.writing ≡ true)
  writes_in e c r mid er em = subst (λ (z : Result (WriteTicket × Phase) InitError). IfOk z (λ _. mid.writing ≡ true)) (sym er) (subst (λ (z : Locked T G P). IfOk (to_write e) (λ _. z.writing ≡ true)) (sym em) (by e))
    where
      by : (x : Entry) → IfOk (to_write x) (λ _. (in_to_write x c).writing ≡ true)
      by Barred = tt
      by (Fails p) = tt
      by (Enters p) = refl
