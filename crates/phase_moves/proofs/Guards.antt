-- The rows of guards, after one is taken off or opened; the sections that run.
use Rattle.phase_moves.proofs.Words.{◌≡◌, ◌≢◌, ◌==◌, ◌≤◌, ◌+◌, ◌∙◌, ℕ, List, ◌∷◌, ap, refl, arith, Bool, true, false, cond, None, Some, cases_eq, count, Guard, numbered}
use Rattle.phase_moves.proofs.Words.{without_guard, reads_cell, writes_cell, Wait, wait_of, wait_woken, found_passes, none_found, none_counted, count_removed, guard_kept}
use Rattle.phase_moves.proofs.Words.{Given, given_on, wait_readers, wait_writer, Standing, slot_row, target_of}
use Rattle.phase_moves.proofs.Words.{◌<◌, [], Section, innermost, without_innermost, runs_in, cell_of_section, found_counts, innermost_kept, run_in, AreInside}

-- a guard has its number
pub its_number : (g : ℕ) (gs : List Guard) (x : Guard) → numbered g gs ≡ Some x → x.number ≡ g
its_number g gs x e = let p = found_passes (λ (y : Guard). y.number == g) gs x e in grind (arith, p)

-- it is found by it
pub found_itself : (g : ℕ) (gs : List Guard) (x : Guard) → numbered g gs ≡ Some x → numbered x.number gs ≡ Some x
found_itself g gs x e = ap (λ n. numbered n gs) (its_number g gs x e) ∙ e

-- each number is a guard's at most once: after one is taken off it is no guard's
pub gone : (g : ℕ) (gs : List Guard) (x : Guard) → numbered g gs ≡ Some x → count (λ (y : Guard). y.number == g) gs ≤ 1 → numbered g (without_guard g gs) ≡ None
gone g gs x e one =
    let all = count_removed (λ (y : Guard). y.number == g) g gs x e in let here = ap (λ b. cond {A = ℕ} b 1 0) (found_passes (λ (y : Guard). y.number == g) gs x e) in
    none_found (λ (y : Guard). y.number == g) (without_guard g gs) (omega (arith, all, here, one))

pub once_without : (g k : ℕ) (gs : List Guard) (x : Guard) → numbered g gs ≡ Some x → count (λ (y : Guard). y.number == k) gs ≤ 1 → count (λ (y : Guard). y.number == k) (without_guard g gs) ≤ 1
once_without g k gs x e one = let all = count_removed (λ (y : Guard). y.number == k) g gs x e in omega (arith, all, one)

pub once_with : (y : Guard) (k : ℕ) (gs : List Guard) → numbered y.number gs ≡ None → count (λ (x : Guard). x.number == k) gs ≤ 1 → count (λ (x : Guard). x.number == k) (y ∷ gs) ≤ 1
once_with y k gs e one = let none = none_counted (λ (x : Guard). x.number == y.number) gs e in grind (arith, none, one)

-- what is left was there
pub left_there : (g k : ℕ) (gs : List Guard) (x y : Guard) → numbered g gs ≡ Some x → count (λ (z : Guard). z.number == g) gs ≤ 1 → numbered k (without_guard g gs) ≡ Some y → (k ≢ g) × (numbered k gs ≡ Some y)
left_there g k gs x y e one f = grind (arith, cases_eq, gone, guard_kept)

pub writes_elsewhere : (x : Guard) (d : ℕ) → d ≢ x.cell → writes_cell d x ≡ false
writes_elsewhere x d ne = grind (arith, ne)

pub writes_here : (x : Guard) → x.writes ≡ true → writes_cell x.cell x ≡ true
writes_here x w = grind (arith, w)

pub reads_here : (x : Guard) → x.writes ≡ false → reads_cell x.cell x ≡ true
reads_here x w = grind (arith, w)

pub never_reads : (x : Guard) (d : ℕ) → x.writes ≡ true → reads_cell d x ≡ false
never_reads x d w = rw w refl

pub never_writes : (x : Guard) (d : ℕ) → x.writes ≡ false → writes_cell d x ≡ false
never_writes x d w = rw w refl

-- the counts without one
pub count_same : (t : Guard → Bool) (g : ℕ) (gs : List Guard) (x : Guard) → numbered g gs ≡ Some x → t x ≡ false → count t (without_guard g gs) ≡ count t gs
count_same t g gs x e f = let all = count_removed t g gs x e in let no = ap (λ b. cond {A = ℕ} b 1 0) f in omega (arith, all, no)

pub count_less : (t : Guard → Bool) (g : ℕ) (gs : List Guard) (x : Guard) → numbered g gs ≡ Some x → t x ≡ true → count t gs ≡ count t (without_guard g gs) + 1
count_less t g gs x e f = let all = count_removed t g gs x e in let yes = ap (λ b. cond {A = ℕ} b 1 0) f in omega (arith, all, yes)

-- all rows stay where the guards are the same but for the one in hand
pub slots_same : (m m' : Standing) (hand g : ℕ) → (g ≢ hand → numbered g m'.guards ≡ numbered g m.guards) → slot_row hand m' g ≡ slot_row hand m g
slots_same m m' hand g guards = grind arith

target_woken : (b : Bool) (w : Wait) → target_of (Some (cond b (wait_woken w) w)) ≡ target_of (Some w)
target_woken b w = grind arith

pub target_given : (c : ℕ) (g : Given) (ws : List Wait) (p : ℕ) → target_of (wait_of p (given_on c g ws)) ≡ target_of (wait_of p ws)
target_given c g ws p = grind (arith, wait_writer, target_woken, wait_readers)

-- ---- the sections that run

-- where no section is counted none runs
pub none_runs : (c : ℕ) (ss : List Section) → count (runs_in c) ss ≡ 0 → run_in c ss ≡ None
none_runs c [] e = refl
none_runs c (x ∷ ss) e = grind (arith, none_runs c ss)

-- those of other cells are kept
pub run_kept : (c p : ℕ) (ss : List Section) (s : Section) → innermost p ss ≡ Some s → c ≢ s.cell → run_in c (without_innermost p ss) ≡ run_in c ss
run_kept c p [] s e ne = cc
run_kept c p (x ∷ ss) s e ne = grind (arith, run_kept c p ss s, innermost_kept p x.party ss)

-- the innermost section of a party runs in its cell
pub run_top : (p : ℕ) (ss : List Section) (s : Section) → innermost p ss ≡ Some s → count (runs_in s.cell) ss ≤ 1 → run_in s.cell ss ≡ Some (record { section = s; outer = cell_of_section (innermost p (without_innermost p ss)) })
run_top p [] s e n = cc
run_top p (x ∷ ss) s e n = grind (arith, run_top p ss s, found_counts (λ y. y.party == p) (runs_in s.cell) ss s)

-- they stay inside
pub inside_ended : (n p : ℕ) (ss : List Section) → AreInside n ss → AreInside n (without_innermost p ss)
inside_ended n p [] k = tt
inside_ended n p (x ∷ ss) k = elim (x.party == p) as (λ v. AreInside n (cond v ss (x ∷ without_innermost p ss))) [ true ↦ k.1 | false ↦ (k.0, inside_ended n p ss k.1) ]

-- one that is found is inside
pub inside_found : (n p : ℕ) (ss : List Section) (s : Section) → AreInside n ss → innermost p ss ≡ Some s → s.cell < n
inside_found n p [] s k e = absurd (cc)
inside_found n p (x ∷ ss) s k e = grind (arith, e, k, inside_found n p ss s)
