-- Numbers in rows of digits.
use Rattle.std.specs.Prelude.{ℕ, ◌≡◌, ◌+◌, List, ◌++◌, length, drop, replicate}
use Rattle.std.specs.Fmt.{decimal}

-- the most digits that a number has
abbrev pub most_digits : ℕ
most_digits = 20

-- the digits of the number stand in the row from this place on, up to the most that there may be, and behind them stands
-- the byte that ends it, over and over
pub record IsRow (end start : ℕ) (row : List ℕ) (n : ℕ) : Type 0 where
  pub width : start + length (decimal n) ≡ most_digits
  pub digits : drop start row ≡ decimal n ++ replicate 24 end
