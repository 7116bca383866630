-- The lists of what is open after one is taken off, or changed.
use Rattle.schedule_rules.proofs.Words.{ℕ, arith, List, ◌≡◌, Bool, refl, Some, ◌∷◌, [], None, ◌≢◌, ◌+◌, cond, Put, count, Section, innermost, without_innermost, Guard, numbered}
use Rattle.schedule_rules.proofs.Words.{without_guard, put_in, Wait, wait_of, without_wait, writes_cell, reads_cell}

-- the party's wait is gone
pub wait_removed : (p : ℕ) (ws : List Wait) → wait_of p (without_wait p ws) ≡ None
wait_removed p [] = refl
wait_removed p (w ∷ ws) = grind (arith, wait_removed p ws)

-- the waits of others are kept
pub wait_kept : (p r : ℕ) (ws : List Wait) → r ≢ p → wait_of r (without_wait p ws) ≡ wait_of r ws
wait_kept p r [] ne = refl
wait_kept p r (w ∷ ws) ne = grind (arith, wait_kept p r ws)

-- one section less is counted
pub count_ended : (t : Section → Bool) (p : ℕ) (ss : List Section) (s : Section) → innermost p ss ≡ Some s → count t ss ≡ count t (without_innermost p ss) + cond (t s) 1 0
count_ended t p [] s e = cc
count_ended t p (x ∷ ss) s e = grind (arith, count_ended t p ss s)

-- the innermost sections of others are kept
pub innermost_kept : (p r : ℕ) (ss : List Section) → r ≢ p → innermost r (without_innermost p ss) ≡ innermost r ss
innermost_kept p r [] ne = refl
innermost_kept p r (x ∷ ss) ne = grind (arith, innermost_kept p r ss)

-- the guards with other numbers are kept
pub guard_kept : (g k : ℕ) (gs : List Guard) → k ≢ g → numbered k (without_guard g gs) ≡ numbered k gs
guard_kept g k [] ne = refl
guard_kept g k (x ∷ gs) ne = grind (arith, guard_kept g k gs)

-- one guard less is counted
pub count_removed : (t : Guard → Bool) (g : ℕ) (gs : List Guard) (x : Guard) → numbered g gs ≡ Some x → count t gs ≡ count t (without_guard g gs) + cond (t x) 1 0
count_removed t g [] x e = cc
count_removed t g (y ∷ gs) x e = grind (arith, count_removed t g gs x)

-- the guard with a value set
abbrev pub put : ℕ → Guard → Guard
put v x = record { number = x.number; party = x.party; cell = x.cell; writes = x.writes; start = x.start; changes = Put v ∷ x.changes }

-- a set is noted
pub numbered_put : (g v : ℕ) (gs : List Guard) (x : Guard) → numbered g gs ≡ Some x → numbered g (put_in g v gs) ≡ Some (put v x)
numbered_put g v [] x e = cc
numbered_put g v (y ∷ gs) x e = grind (arith, numbered_put g v gs x)

-- and nowhere else
pub numbered_put_other : (g k v : ℕ) (gs : List Guard) → k ≢ g → numbered k (put_in g v gs) ≡ numbered k gs
numbered_put_other g k v [] ne = refl
numbered_put_other g k v (y ∷ gs) ne = grind (arith, numbered_put_other g k v gs)

-- it changes no count of readers
pub reads_put : (c g v : ℕ) (gs : List Guard) → count (reads_cell c) (put_in g v gs) ≡ count (reads_cell c) gs
reads_put c g v [] = refl
reads_put c g v (y ∷ gs) = grind (arith, reads_put c g v gs)

-- nor of writers
pub writes_put : (c g v : ℕ) (gs : List Guard) → count (writes_cell c) (put_in g v gs) ≡ count (writes_cell c) gs
writes_put c g v [] = refl
writes_put c g v (y ∷ gs) = grind (arith, writes_put c g v gs)
