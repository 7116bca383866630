-- Rows of digits: what is read off them, and how a number is counted up.
use Rattle.std.proofs.Common.{◌≡◌, ℕ, ◌+◌, ◌-◌, ◌/◌, ◌%◌, ◌^◌, ◌<◌, ◌≤◌, Bool, true, false, ltb, List, [], ◌∷◌, ◌++◌, length, take, drop, get_or, refl, sym, ap, ◌∙◌, append_assoc, arith}
use Rattle.std.specs.Prelude.{replicate, if◌then◌else◌}
use Rattle.std.specs.Fmt.{decimal}
use Rattle.std.proofs.Math.ListN.{set}
use Rattle.std.proofs.Math.Seq.{take-append-add, take-append_seam, drop-append_seam, get_or-append_seam, set-append_seam}
use Rattle.std.proofs.lemmas.Bool.{ltb-true, ltb-false, lt-ltb, le-ltb}
use Rattle.std.proofs.lemmas.List.{length-append, drop-drop, get_or-drop, drop-set-add}
use Rattle.std.proofs.lemmas.Fmt.{decimal_digit, decimal_step}
use Rattle.schedule_text.specs.Numerals.{most_digits, IsRow}

-- a number, and the byte that ends it, stand in the row from its first digit on
pub row_piece : (end start n k : ℕ) (row : List ℕ) → IsRow end start row n → k ≡ 24 → take (21 - start) (take k (drop start row)) ≡ decimal n ++ (end ∷ [])
row_piece end start n k row r all =
    let d : List ℕ = decimal n ++ (end ∷ []) in
    let rest : List ℕ = replicate 23 end in
    let long : length d ≡ 21 - start = omega (arith, r.width, length-append (decimal n) (end ∷ [])) in
    let parts : drop start row ≡ d ++ rest = r.digits ∙ sym (append_assoc (decimal n) (end ∷ []) rest) in
    let whole : k ≡ length d + (start + 3) = omega (arith, r.width, long) in
    let taken : take k (drop start row) ≡ d ++ take (start + 3) rest =
    ap (take k) parts ∙ ap (λ (i : ℕ). take i (d ++ rest)) whole ∙ take-append-add d rest (start + 3) in
    ap (take (21 - start)) taken ∙ ap (λ (i : ℕ). take i (d ++ take (start + 3) rest)) (sym long) ∙ take-append_seam d (take (start + 3) rest)

-- behind the digits of a row stays what was there when others are written
pub rewritten : (end start n from m : ℕ) (row new : List ℕ) → IsRow end start row n → from + length (decimal m) ≡ most_digits → drop from new ≡ decimal m ++ drop 20 row → IsRow end from new m
rewritten end start n from m row new r width digits =
    let rest : drop 20 row ≡ replicate 24 end =
    ap (λ (i : ℕ). drop i row) (sym r.width) ∙ sym (drop-drop (length (decimal n)) start row)
    ∙ ap (drop (length (decimal n))) r.digits ∙ drop-append_seam (decimal n) (replicate 24 end) in
    record { width = width; digits = digits ∙ ap (λ (l : List ℕ). decimal m ++ l) rest }

-- the digits of a number before its last one
before_last : ℕ → List ℕ
before_last n = if ltb n 10 then [] else decimal (n / 10)

last_is : (n : ℕ) → n < 2 ^ 64 → decimal n ≡ before_last n ++ ((48 + n % 10) ∷ [])
unfolding before_last
last_is n small = by (ltb n 10) refl
  where
    by : (b : Bool) → ltb n 10 ≡ b → decimal n ≡ (if b then [] else decimal (n / 10)) ++ ((48 + n % 10) ∷ [])
    by true e = let lt = ltb-true n 10 e in let one : n % 10 ≡ n = omega arith in decimal_digit n lt ∙ rw one refl
    by false e = let le = ltb-false n 10 e in decimal_step n le small

-- the number that follows has the same ones, where the last one is no 9
same_before : (n : ℕ) → n % 10 < 9 → before_last (n + 1) ≡ before_last n
unfolding before_last
same_before n low = by (ltb n 10) refl
  where
    by : (b : Bool) → ltb n 10 ≡ b → (if ltb (n + 1) 10 then [] else decimal ((n + 1) / 10)) ≡ (if b then [] else decimal (n / 10))
    by true e = let lt = ltb-true n 10 e in let more : n + 1 < 10 = omega arith in rw (lt-ltb (n + 1) 10 more) refl
    by false e =
        let le = ltb-false n 10 e in
        let more : 10 ≤ n + 1 = omega arith in
        let tens : (n + 1) / 10 ≡ n / 10 = omega arith in
        rw (le-ltb (n + 1) 10 more, tens) refl

next_is : (n : ℕ) → n + 1 < 2 ^ 64 → n % 10 < 9 → decimal (n + 1) ≡ before_last n ++ ((48 + n % 10 + 1) ∷ [])
next_is n small low =
    let last : 48 + (n + 1) % 10 ≡ 48 + n % 10 + 1 = omega arith in
    last_is (n + 1) small ∙ rw (same_before n low, last) refl

-- the row of the number that follows
pub counted_up : (start n m : ℕ) (row : List ℕ) → IsRow 32 start row n → m ≡ n + 1 → m < 2 ^ 64 → get_or row 19 0 < 57 → IsRow 32 start (set row 19 (get_or row 19 0 + 1)) m
counted_up start n m row r follows small low = record { width = wide; digits = digits }
  where
    d : List ℕ
    d = before_last n

    x : ℕ
    x = 48 + n % 10

    spaces : List ℕ
    spaces = replicate 24 32

    now : decimal n ≡ d ++ (x ∷ [])
    now = last_is n (omega arith)

    place : start + length d ≡ 19
    place = omega (arith, r.width, ap length now, length-append d (x ∷ []))

    whole : drop start row ≡ d ++ (x ∷ spaces)
    whole = r.digits ∙ ap (λ (l : List ℕ). l ++ spaces) now ∙ append_assoc d (x ∷ []) spaces

    read : get_or row 19 0 ≡ x
    read =
        ap (λ (i : ℕ). get_or row i 0) (sym place) ∙ sym (get_or-drop start row (length d) 0)
        ∙ ap (λ (l : List ℕ). get_or l (length d) 0) whole ∙ get_or-append_seam d x spaces 0

    next : decimal m ≡ d ++ ((x + 1) ∷ [])
    next = ap decimal follows ∙ next_is n (omega arith) (omega (arith, read))

    wide : start + length (decimal m) ≡ most_digits
    wide = omega (arith, place, ap length next, length-append d ((x + 1) ∷ []))

    digits : drop start (set row 19 (get_or row 19 0 + 1)) ≡ decimal m ++ replicate 24 32
    digits =
        ap (λ (v : ℕ). drop start (set row 19 (v + 1))) read
        ∙ ap (λ (i : ℕ). drop start (set row i (x + 1))) (sym place)
        ∙ drop-set-add start row (length d) (x + 1)
        ∙ ap (λ (l : List ℕ). set l (length d) (x + 1)) whole
        ∙ set-append_seam d x spaces (x + 1)
        ∙ sym (append_assoc d ((x + 1) ∷ []) spaces)
        ∙ ap (λ (l : List ℕ). l ++ spaces) (sym next)

-- a text of which the end was taken off again
pub put_and_off : (old text whole : List ℕ) (count : ℕ) → whole ≡ old ++ text → count ≤ length text → take (length whole - (length text - count)) whole ≡ old ++ take count text
put_and_off old text whole count put short =
    let long : length whole - (length text - count) ≡ length old + count = omega (arith, ap length put, length-append old text) in
    ap (λ (l : List ℕ). take (length whole - (length text - count)) l) put
    ∙ ap (λ (i : ℕ). take i (old ++ text)) long ∙ take-append-add old text count
