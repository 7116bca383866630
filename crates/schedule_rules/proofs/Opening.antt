-- What holds of each open guard: what happened in its section, that it bears the number of an earlier step, and that no
-- section of a cell is open while a guard reads it.
use Rattle.schedule_rules.proofs.Words.{ℕ, arith, List, ◌≡◌, Bool, true, refl, Some, false, ◌∷◌, [], ◌∙◌, sym, ap, None, ◌<◌, length, ◌++◌, and_or_apart, and_assoc, bit_and}
use Rattle.schedule_rules.proofs.Words.{AllByRecursion, ◌==◌, is_some, ◌^◌, ◌-◌, Option, has, Given, final_outcome, CellPlan, Step, flags_kept, Content, effect, Change, Ran, Asked}
use Rattle.schedule_rules.proofs.Words.{Put, Deed, Event, deed_of, sections, Guard, guards, numbered, guards_by, reader, cell_concerned, write_holds, read_guards, reads_cell}
use Rattle.schedule_rules.proofs.Words.{turns_to_read, IsLegal, read_at}
use Rattle.schedule_rules.proofs.Opened.{put}
use Rattle.schedule_rules.proofs.Found.{each_removed, each_put, each_mapped, each_found, found_counts, found_passes}
use Rattle.schedule_rules.proofs.Facts.{same_number}
use Rattle.schedule_rules.proofs.Exclusion.{alone}

-- a generator ran in the section, or values were set, and no more
abbrev pub IsOfRun : List Change → Type 0
IsOfRun [] = Unit {0}
IsOfRun (Ran o m ∷ chs) = IsOfRun chs
IsOfRun (Put v ∷ chs) = IsOfRun chs
IsOfRun (ch ∷ chs) = ⊥

-- a guard that the step with this number opens
pub record IsOpened (n : ℕ) (x : Guard) : Type 0 where
  pub number : x.number ≡ n
  pub runs : IsOfRun x.changes

module _ (Q : Guard → Type 0) (h : List Event) (opens : (x : Guard) → IsOpened (length h) x → Q x) (puts : (v : ℕ) (x : Guard) → Q x → Q (put v x)) where
  each_by : (p : ℕ) (d : Deed) (gs : List Guard) → AllByRecursion Q gs → AllByRecursion Q (guards_by (length h) p d (sections h) gs)
  each_by p d gs ks = grind (arith, each_removed, each_put)

  -- what holds of each guard, of each with a value set, and of what is opened, holds of each after the event
  pub each_after : (e : Event) → AllByRecursion Q (guards h) → AllByRecursion Q (guards (e ∷ h))
  each_after e ks = each_by e.step.party (deed_of h e.step e.line.answer) (guards h) ks

-- in the section of a guard a generator ran, or values were set, and no more
abbrev pub IsRunning : Guard → Type 0
IsRunning x = IsOfRun x.changes

pub guards-run : (h : List Event) → AllByRecursion IsRunning (guards h)
guards-run [] = tt
guards-run (e ∷ h) = each_after IsRunning h (λ x n. n.runs) (λ v x r. r) e (guards-run h)

-- a flag that no run sets, and that no registration sets
pub record IsBeside (f : ℕ) : Type 0 where
  pub made : bit_and 1 f ≡ 0
  pub failed : bit_and 6 f ≡ 0
  pub stays : bit_and (2 ^ 32 - 1 - 7) f ≡ f
  pub nothing : has 0 f ≡ false
  pub registered : has 8 f ≡ false
  pub refused : has 32 f ≡ false
  pub declined : has 36 f ≡ false

-- what a finalizer sets is such a flag
pub beside : (fine : Bool) → IsBeside (final_outcome fine)
beside fine = grind arith

module _ (f : ℕ) (is : IsBeside f) where
  -- it is among the flags that stay only where it was
  kept_before : (x : CellPlan) (o : Bool) (p : ℕ) → has (flags_kept x.kind o p) f ≡ true → has p f ≡ true
  kept_before x o p e = grind (arith, and_assoc)

  -- and after a run only where it was
  pub run_before : (x : CellPlan) (chs : List Change) (y : Content) → IsOfRun chs → has (effect x chs y).phase f ≡ true → has y.phase f ≡ true
  run_before x [] y r e = e
  run_before x (Ran o (Some v) ∷ chs) y r e =
      let p : ℕ = (effect x chs y).phase in
      run_before x chs y r (kept_before x o p (sym (ap (λ z. z == f) (and_or_apart f (flags_kept x.kind o p) 1 is.made)) ∙ e))
  run_before x (Ran o None ∷ chs) y r e =
      let p : ℕ = (effect x chs y).phase in
      run_before x chs y r (kept_before x o p (sym (ap (λ z. z == f) (and_or_apart f (flags_kept x.kind o p) 6 is.failed)) ∙ e))
  run_before x (Put v ∷ chs) y r e = run_before x chs y r e
  run_before x (ch ∷ chs) y r e = absurd r

  -- so it is with a call that leaves nothing open
  pub asked_before : (x : CellPlan) (o : Bool) (k : _) (y : Content) → has (effect x (Asked o k ∷ []) y).phase f ≡ true → has y.phase f ≡ true
  asked_before x o k y e = grind arith

-- a guard bears the number of an earlier step
abbrev IsOlder : List Event → Guard → Type 0
IsOlder h x = x.number < length h

older : (h : List Event) → AllByRecursion (IsOlder h) (guards h)
older [] = tt
older (e ∷ h) =
    each_after (IsOlder (e ∷ h)) h (λ x n. omega (arith, n.number)) (λ v x le. le) e
    (each_mapped (IsOlder h) (IsOlder (e ∷ h)) (guards h) (λ x le. omega (arith, le)) (older h))

-- a guard with this number reads this cell
abbrev Reads : ℕ → ℕ → Guard → Type 0
Reads n c x = (x.number == n) ≡ true → (x.cell ≡ c) × (x.writes ≡ false)

-- and goes on to, after any events: later guards bear other numbers
stays_reading : (n c : ℕ) (k h : List Event) → n < length h → AllByRecursion (Reads n c) (guards h) → AllByRecursion (Reads n c) (guards (k ++ h)) × (n < length (k ++ h))
stays_reading n c [] h le rs = (rs, le)
stays_reading n c (e ∷ k) h le rs =
    let before : _ = stays_reading n c k h le rs in let later : _ = before.1 in
    (each_after (Reads n c) (k ++ h) (λ x o same. let m : _ = o.number in absurd (grind arith)) (λ v x r. r) e before.0, omega (arith, later))

-- what reads the cell keeps every section of it out
reading_keeps_out : (cells : List CellPlan) (h : List Event) (n c : ℕ) → IsLegal cells h → AllByRecursion (Reads n c) (guards h) → is_some (numbered n (guards h)) ≡ true → write_holds c h ≡ 0
reading_keeps_out cells h n c legal rs open_still = by (numbered n (guards h)) refl open_still
  where
    none : 0 < read_guards c h → write_holds c h ≡ 0
    none reads = no_writers (write_holds c h) (λ held. let z : _ = (alone cells h legal c).no_reader (omega (arith, held)) in omega (arith, z, reads))
      where
        no_writers : (m : ℕ) → (0 < m → ⊥) → m ≡ 0
        no_writers m f = grind arith

    by : (o : Option Guard) → numbered n (guards h) ≡ o → is_some o ≡ true → write_holds c h ≡ 0
    by None f e = absurd (cc)
    by (Some x) f e =
        let r : _ = each_found (λ y. y.number == n) (Reads n c) (guards h) x f rs (found_passes (λ y. y.number == n) (guards h) x f) in
        none (found_counts (λ y. y.number == n) (reads_cell c) (guards h) x f (rw r.1 (same_number x.cell c r.0)))

module _ (h : List Event) (s : Step) (i : Given) (c : ℕ) where
  -- where one guard more reads the cell, and the others are older, what bears the number of this step reads the cell
  now : (gs : List Guard) → guards (read_at s i ∷ h) ≡ reader (length h) s.party c ∷ gs → AllByRecursion (IsOlder h) gs
      → AllByRecursion (Reads (length h) c) (guards (read_at s i ∷ h)) × (numbered (length h) (guards (read_at s i ∷ h)) ≡ Some (reader (length h) s.party c))
  now gs e le = grind (arith, each_mapped)

  -- a downgrade opens a guard to read on the cell that the step concerns
  downgraded : (cells : List CellPlan) → turns_to_read s.act ≡ true → cell_concerned cells h s ≡ Some c
      → AllByRecursion (Reads (length h) c) (guards (read_at s i ∷ h)) × (numbered (length h) (guards (read_at s i ∷ h)) ≡ Some (reader (length h) s.party c))
  downgraded cells = grind (arith, now, older, each_removed)

  -- the guard that a downgrade opens
  pub downgrade-opens : (cells : List CellPlan) → turns_to_read s.act ≡ true → cell_concerned cells h s ≡ Some c → numbered (length h) (guards (read_at s i ∷ h)) ≡ Some (reader (length h) s.party c)
  downgrade-opens cells t n = (downgraded cells t n).1

  -- from there until it is released no section of the cell is open
  pub downgrade-keeps-out : (cells : List CellPlan) (k : List Event) → IsLegal cells (k ++ read_at s i ∷ h) → turns_to_read s.act ≡ true → cell_concerned cells h s ≡ Some c
      → is_some (numbered (length h) (guards (k ++ read_at s i ∷ h))) ≡ true → write_holds c (k ++ read_at s i ∷ h) ≡ 0
  downgrade-keeps-out cells k legal t n still =
      reading_keeps_out cells (k ++ read_at s i ∷ h) (length h) c legal (stays_reading (length h) c k (read_at s i ∷ h) (omega arith) (downgraded cells t n).0).0 still
