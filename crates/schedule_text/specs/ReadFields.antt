-- What a reader of a text's front answers: words and numbers.
use Rattle.std.specs.Prelude.{◌≡◌, ℕ, ◌+◌, ◌-◌, ◌*◌, ◌^◌, List, [], ◌∷◌, Option, Some, None, nat_lt, ◌==◌, if◌then◌else◌}
use Rattle.std.specs.Char.{is_ascii_digit}
use Rattle.schedule_text.specs.Lines.{Word}

-- a value that stands at the front, with the bytes after it, or none
abbrev pub Field : Type 0 → Type 0
Field A = Option (A × List ℕ)

-- what a function of the code returned, seen by view, is this
abbrev pub Gives : {X Y : Type 0} → (X → Y) → Option X → Option Y → Type 0
Gives view None read = read ≡ None
Gives view (Some x) read = read ≡ Some (view x)

infixl 10 ◌>>=◌
-- what is read behind a value that was found
abbrev pub ◌>>=◌ : {A B : Type 0} → Option A → (A → Option B) → Option B
None >>= f = None
(Some x) >>= f = f x

-- the bytes after a word that stands at the front
unfoldable pub bytes_after : Word → List ℕ → Option (List ℕ)
bytes_after [] bytes = Some bytes
bytes_after (c ∷ word) [] = None
bytes_after (c ∷ word) (b ∷ bytes) = if b == c then bytes_after word bytes else None

-- the number that begins with the digits of n and goes on with the digits at the front
unfoldable pub digits_from : ℕ → List ℕ → Field ℕ
digits_from n [] = Some (n, [])
digits_from n (b ∷ bytes) =
    if is_ascii_digit b
    then (if nat_lt (n * 10 + (b - 48)) (2 ^ 64) then digits_from (n * 10 + (b - 48)) bytes else None)
    else Some (n, b ∷ bytes)

-- a number below 2^64, with no zero before it
unfoldable pub number_at : List ℕ → Field ℕ
number_at [] = None
number_at (b ∷ bytes) = if b == 48 then Some (0, bytes) else (if is_ascii_digit b then digits_from (b - 48) bytes else None)

-- a number below 2^32
unfoldable pub name_at : List ℕ → Field ℕ
name_at bytes = number_at bytes >>= λ n. if nat_lt n.0 (2 ^ 32) then Some n else None
