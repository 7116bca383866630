-- What contracts see of a source and a sink over memory.
use Rattle.std.specs.Prelude.{ℕ, Bool, true, false, ◌≡◌, ◌==◌, ◌-◌, ◌||◌, List, ◌++◌, length, take, drop, min, nat_le}
use Rattle.std.specs.List.{list_any}
use Rattle.phase_run.specs.Faults.{one_more}

-- the call with this number is one of those that fail
abbrev pub is_listed : List ℕ → ℕ → Bool
is_listed fails call = list_any (λ k. k == call) fails

-- a source: the bytes left, the numbers of the calls that fail, how many calls there were, and how many failed
pub record Input : Type 0 where
  pub left : List ℕ
  pub fails : List ℕ
  pub calls : ℕ
  pub faults : ℕ

-- a call with this much room gave n bytes
pub record IsTaken (old new : Input) (room n : ℕ) (buf : List ℕ) : Type 0 where
  pub unlisted : is_listed old.fails old.calls ≡ false
  pub count : n ≡ min room (length old.left)
  pub bytes : take n buf ≡ take n old.left
  pub after : new ≡ record old { left = drop n old.left; calls = one_more old.calls }

-- a call failed
pub record IsRefused (old new : Input) : Type 0 where
  pub listed : is_listed old.fails old.calls ≡ true
  pub after : new ≡ record old { calls = one_more old.calls; faults = one_more old.faults }

-- a sink: the bytes given, how many it has room for in all, the numbers of the calls that fail, how many calls there
-- were, and how many failed
pub record Output : Type 0 where
  pub given : List ℕ
  pub room : ℕ
  pub fails : List ℕ
  pub calls : ℕ
  pub faults : ℕ

-- the next call fails: it is listed, or no room is left
abbrev pub refuses : Output → Bool
refuses s = is_listed s.fails s.calls || nat_le s.room (length s.given)

-- a call took the first n bytes of the piece
pub record IsGiven (old new : Output) (piece : List ℕ) (n : ℕ) : Type 0 where
  pub accepts : refuses old ≡ false
  pub count : n ≡ min (length piece) (old.room - length old.given)
  pub after : new ≡ record old { given = old.given ++ take n piece; calls = one_more old.calls }

-- a call failed
pub record IsTurnedAway (old new : Output) : Type 0 where
  pub refuses : refuses old ≡ true
  pub after : new ≡ record old { calls = one_more old.calls; faults = one_more old.faults }
