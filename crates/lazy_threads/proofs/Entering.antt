-- What an attempt got of the word, and a call that attempts again.
use Rattle.std.proofs.Common.{◌++◌, ◌||◌, ◌≡◌, ◌≢◌, inl, inr, ℕ, ◌%◌, ◌/◌, ◌^◌, ◌==◌, Bool, true, false, List, [], ◌∷◌, refl, arith, ◌∙◌, sym, cond, append_assoc}
use Rattle.std.specs.Bool.{OnTrue, OnFalse}
use Rattle.phase_bits.specs.Number.{phase_of}
use Rattle.phase_bits.specs.Word.{unpacked}
use Rattle.phase_bits.specs.declared.phase.Phase.{Phase}
use Rattle.phase_locker.specs.Natures.{bars}
use Rattle.phase_locker.specs.declared.tickets.LockNature.{LockNature}
use Rattle.phase_locker.specs.declared.tickets.LockNature.TheVariants as nature
use Rattle.lazy_threads.specs.declared.view.View.{View}
use Rattle.lazy_threads.specs.declared.view.Hold.TheVariants.{Free}
use Rattle.lazy_threads.specs.Views.{HasInitialized, saw_initialized, loaded, exchanged, entered_read, entered_write, looked_write}
use Rattle.lazy_threads.specs.Rule.{IsCellWord}
use Rattle.lazy_threads.specs.Calls.{Looks, Enters, Misses, Clones, MissesClone, Waits}
use Rattle.lazy_threads.proofs.Moves.{free_read, free_write, admits_read, admits_write}

-- ---- one look

-- a phase that was seen last is seen
sees_front : (word : ℕ) (phases : List ℕ) → HasInitialized word → saw_initialized (word % 256 ∷ phases) ≡ true
sees_front word phases h =
    let odd : word % 256 % 2 ≡ 1 = omega arith in
    rw odd refl

pub looks : (word : ℕ) (v : View) → (saw_initialized v.seen ≡ true → HasInitialized word) → Looks v (loaded word v)
looks word v lasts = record { loads = omega arith; seen = (word % 256 ∷ [], refl); lasts = lasts; knows = sees_front word v.seen }

pub looks_by : (word : ℕ) (v w : View) → (saw_initialized v.seen ≡ true → HasInitialized word) → w ≡ loaded word v → Looks v w
looks_by word v w lasts is = rw is (looks word v lasts)

-- ---- one attempt. It loaded the word, and its exchange found another or the same

pub got_read : (rule : Phase → LockNature → Type 0) (word found : ℕ) (v u w : View) → IsCellWord word → (saw_initialized v.seen ≡ true → HasInitialized word) → rule (phase_of (word % 256)) nature.Read → bars (unpacked word) nature.Read ≡ false
    → u ≡ loaded word v → w ≡ cond (found == word) (entered_read found u) (loaded found u) → found ≡ word → Enters rule v w nature.Read
got_read rule word found v u w is lasts asked free look exchange same =
    let e : (found == word) ≡ true = grind (arith, same) in
    let end : w ≡ entered_read word (loaded word v) = exchange ∙ (rw e (rw (same, look) refl)) in
    let look = looks word v lasts in
    rw end (record {
      looks = record { loads = look.loads; seen = look.seen; lasts = look.lasts; knows = look.knows };
      asked = asked;
      free = free;
      hold = refl;
      entered = λ h. absurd (cc);
      before = refl;
      event = admits_read word (free_read word is free).1;
    })

pub got_write : (rule : Phase → LockNature → Type 0) (word found : ℕ) (v u w : View) → IsCellWord word → (saw_initialized v.seen ≡ true → HasInitialized word) → rule (phase_of (word % 256)) nature.Write → bars (unpacked word) nature.Write ≡ false
    → u ≡ loaded word v → w ≡ cond (found == word) (entered_write found u) (loaded found u) → found ≡ word → Enters rule v w nature.Write
got_write rule word found v u w is lasts asked free look exchange same =
    let e : (found == word) ≡ true = grind (arith, same) in
    let end : w ≡ entered_write word (loaded word v) = exchange ∙ (rw e (rw (same, look) refl)) in
    let look = looks word v lasts in
    rw end (record {
      looks = record { loads = look.loads; seen = look.seen; lasts = look.lasts; knows = look.knows };
      asked = asked;
      free = free;
      hold = refl;
      entered = λ h. refl;
      before = refl;
      event = admits_write word is.below (free_write word free).0;
    })

pub got_phase : (rule : Phase → LockNature → Type 0) (word : ℕ) (v w : View) → (saw_initialized v.seen ≡ true → HasInitialized word) → rule (phase_of (word % 256)) nature.None → v.hold ≡ Free → w ≡ loaded word v → Enters rule v w nature.None
got_phase rule word v w lasts asked hold look =
    rw look (record {
      looks = looks word v lasts;
      asked = asked;
      free = refl;
      hold = hold;
      entered = λ h. absurd (cc);
      before = refl;
      event = refl;
    })

pub was_barred : (rule : Phase → LockNature → Type 0) (word : ℕ) (k : LockNature) (v w : View) → (saw_initialized v.seen ≡ true → HasInitialized word) → rule (phase_of (word % 256)) k → bars (unpacked word) k ≡ true → w ≡ loaded word v → Misses rule v w
was_barred rule word k v w lasts asked barred look =
    rw look (record { looks = looks word v lasts; hold = refl; why = inl (record { nature = k; asked = asked; bars = barred }) })

saw_more : (b c : Bool) → c ≡ true → (b || c) ≡ true
saw_more true c h = refl
saw_more false c h = h

pub was_beaten : (rule : Phase → LockNature → Type 0) (word found : ℕ) (v u w x : View) → (saw_initialized v.seen ≡ true → HasInitialized word) → (saw_initialized u.seen ≡ true → HasInitialized found)
    → u ≡ loaded word v → w ≡ cond (found == word) x (loaded found u) → found ≢ word → Misses rule v w
was_beaten rule word found v u w x lasts later look exchange differ =
    let e : (found == word) ≡ false = grind (arith, differ) in
    let end : w ≡ loaded found (loaded word v) = exchange ∙ (rw e (rw look refl)) in
    let lasts' : saw_initialized (word % 256 ∷ v.seen) ≡ true → HasInitialized found = rw look at later in
    rw end (record {
      looks = record {
        loads = omega arith;
        seen = (found % 256 ∷ word % 256 ∷ [], refl);
        lasts = λ h. lasts' (saw_more (word % 256 % 2 == 1) (saw_initialized v.seen) h);
        knows = sees_front found (word % 256 ∷ v.seen);
      };
      hold = refl;
      why = inr (record { loads = omega arith; differ = differ });
    })

on_true : (b : Bool) (A : Type 0) → (b ≡ true → A) → OnTrue b A
on_true true A h = h refl
on_true false A h = tt

pub cloned : (word found : ℕ) (v seat old new : View) → IsCellWord word → bars (unpacked word) nature.Read ≡ false → seat ≡ loaded word v → new ≡ exchanged entered_read word found old → OnTrue (found == word) (Clones seat old new)
cloned word found v seat old new is free look exchange =
    on_true (found == word) (Clones seat old new) (λ e.
    let same : found ≡ word = grind (arith, e) in
    let end : new ≡ entered_read word old = exchange ∙ (rw e (rw same refl)) in
    rw (look, end) (record { free = free; view = refl; event = admits_read word (free_read word is free).1 }))

on_false : (b : Bool) (A : Type 0) → (b ≡ false → A) → OnFalse b A
on_false true A h = tt
on_false false A h = h refl

pub overtaken : (word found : ℕ) (v seat old new : View) → (saw_initialized old.seen ≡ true → HasInitialized found) → seat ≡ loaded word v → new ≡ exchanged entered_read word found old → OnFalse (found == word) (MissesClone seat old new)
overtaken word found v seat old new lasts look exchange =
    on_false (found == word) (MissesClone seat old new) (λ e.
    let differ : found ≢ word = grind (arith, e) in
    let end : new ≡ loaded found old = exchange ∙ (rw e refl) in
    rw (look, end) (inr (record { looks = looks found old lasts; hold = refl; differ = differ })))

-- ---- a call that attempts again

pub waits_first : (v : View) → v.hold ≡ Free → Waits v v
waits_first v free = record { hold = free; loads = omega arith; seen = ([], refl) }

joins : (a b c x y : List ℕ) → x ≡ a ++ c → y ≡ b ++ x → y ≡ (b ++ a) ++ c
joins a b c x y e f = f ∙ (rw e (sym (append_assoc b a c)))

pub waits_more : (rule : Phase → LockNature → Type 0) (v w x : View) → Waits v w → Misses rule w x → Waits v x
waits_more rule v w x a m = record {
  hold = m.hold ∙ a.hold;
  loads = omega (arith, a.loads, m.looks.loads);
  seen = (m.looks.seen.0 ++ a.seen.0, joins _ _ _ _ _ a.seen.1 m.looks.seen.1);
}

saw_behind : (more ps : List ℕ) → saw_initialized ps ≡ true → saw_initialized (more ++ ps) ≡ true
saw_behind [] ps h = h
saw_behind (p ∷ more) ps h = saw_more (p % 2 == 1) (saw_initialized (more ++ ps)) (saw_behind more ps h)

looks_later : (v w x : View) → Waits v w → Looks w x → Looks v x
looks_later v w x a look = record {
  loads = omega (arith, a.loads, look.loads);
  seen = (look.seen.0 ++ a.seen.0, joins _ _ _ _ _ a.seen.1 look.seen.1);
  lasts = λ h. look.lasts (rw a.seen.1 (saw_behind a.seen.0 v.seen h));
  knows = look.knows;
}

pub enters_later : (rule : Phase → LockNature → Type 0) (v w x : View) (k : LockNature) → Waits v w → Enters rule w x k → Enters rule v x k
enters_later rule v w x k a m = record {
  looks = looks_later v w x a m.looks;
  asked = m.asked;
  free = m.free;
  hold = m.hold;
  entered = m.entered;
  before = m.before;
  event = m.event;
}

-- ---- the exchange that no load came before

-- a phase with no holder bars no writer
pub unheld : (n : ℕ) → bars (unpacked (n % 256)) nature.Write ≡ false
unheld n =
    let readers : n % 256 / 256 % 2 ^ 20 ≡ 0 = omega arith in
    let lock : n % 256 / 2 ^ 29 % 2 ≡ 0 = omega arith in
    rw (readers, lock) refl

pub got_write_at_once : (rule : Phase → LockNature → Type 0) (expected found : ℕ) (v w : View) → IsCellWord found → (saw_initialized v.seen ≡ true → HasInitialized found) → rule (phase_of (expected % 256)) nature.Write → bars (unpacked expected) nature.Write ≡ false
    → w ≡ exchanged looked_write expected found v → OnTrue (found == expected) (Enters rule v w nature.Write)
got_write_at_once rule expected found v w is lasts asked free exchange =
    on_true (found == expected) (Enters rule v w nature.Write) (λ e.
    let same : found ≡ expected = grind (arith, e) in
    let itself : (found == found) ≡ true = grind arith in
    let end : w ≡ entered_write found (loaded found v) = exchange ∙ (rw e refl) in
    got_write rule found found v (loaded found v) w is lasts (rw same asked) (rw same free) refl (end ∙ (rw itself refl)) refl)

pub waits_at_once : (expected found : ℕ) (v w : View) → v.hold ≡ Free → w ≡ exchanged looked_write expected found v → OnFalse (found == expected) (Waits v w)
waits_at_once expected found v w free exchange =
    on_false (found == expected) (Waits v w) (λ e.
    let end : w ≡ loaded found v = exchange ∙ (rw e refl) in
    rw end (record { hold = free; loads = omega arith; seen = (found % 256 ∷ [], refl) }))
