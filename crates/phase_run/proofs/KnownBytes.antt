-- How known bytes are taken and given piece by piece.
use Rattle.std.proofs.Common.{ℕ, ◌≡◌, ◌+◌, ◌<◌, ◌≤◌, List, [], ◌++◌, length, take, drop, refl, sym, ◌∙◌, ap, arith, IfSome, length-append, append_assoc, append-nil}
use Rattle.std.proofs.Math.Seq.{take-add}
use Rattle.std.proofs.lemmas.Grind.{common_steps}
use Rattle.std.specs.declared.option.Option.{Option}
use Rattle.std.specs.declared.option.Option.TheVariants.{None, Some}
use Rattle.std.specs.Io.KnownBytes.{Appends, Consumes, Keeps, IsAtEnd}
use Rattle.phase_run.specs.Runs.{TakesAtMost}
use Rattle.phase_run.specs.Steps.{IsWhole}

-- one piece more was given
pub Appends-more : (a b c : Option (List ℕ)) (text : List ℕ) (at n : ℕ) → Appends a b (take at text) → Appends b c (take n (drop at text)) → Appends a c (take (at + n) text)
Appends-more None b c text at n first more = tt
Appends-more (Some xs) None c text at n first more = absurd first
Appends-more (Some xs) (Some ys) None text at n first more = absurd more
Appends-more (Some xs) (Some ys) (Some zs) text at n first more =
    more ∙ ap (λ v. v ++ take n (drop at text)) first ∙ append_assoc xs (take at text) (take n (drop at text)) ∙ ap (λ v. xs ++ v) (sym (take-add at n text))

-- nothing was taken yet
pub Consumes-none : (known : Option (List ℕ)) → Consumes known known []
Consumes-none None = tt
Consumes-none (Some xs) = refl

-- one piece more was taken
pub Consumes-more : (a b c : Option (List ℕ)) (text piece : List ℕ) → Consumes a b text → Consumes b c piece → Consumes a c (text ++ piece)
Consumes-more None b c text piece first more = tt
Consumes-more (Some xs) None c text piece first more = absurd first
Consumes-more (Some xs) (Some ys) None text piece first more = absurd more
Consumes-more (Some xs) (Some ys) (Some zs) text piece first more = first ∙ ap (λ v. text ++ v) more ∙ sym (append_assoc text piece zs)

-- nothing more was taken
pub Consumes-keeps : (a b c : Option (List ℕ)) (text : List ℕ) → Consumes a b text → Keeps b c → Consumes a c text
Consumes-keeps None b c text first kept = tt
Consumes-keeps (Some xs) None c text first kept = absurd first
Consumes-keeps (Some xs) (Some ys) None text first kept = absurd kept
Consumes-keeps (Some xs) (Some ys) (Some zs) text first kept = first ∙ ap (λ v. text ++ v) (sym kept)

-- so many bytes were taken as the text has
pub Consumes-takes : (most : ℕ) (a b : Option (List ℕ)) (text : List ℕ) → Consumes a b text → length text ≤ most → TakesAtMost most a b
Consumes-takes most None b text taken fits = tt
Consumes-takes most (Some xs) None text taken fits = absurd taken
Consumes-takes most (Some xs) (Some ys) text taken fits = (length text, fits, ap (λ v. Some v) (let e : ys ≡ drop (length text) (text ++ ys) = grind (arith, common_steps) in e ∙ ap (λ v. drop (length text) v) (sym taken)))

-- where the end was found, the text is all
pub Consumes-whole : (a b c : Option (List ℕ)) (text buf : List ℕ) (n : ℕ) → Consumes a b text → Consumes b c (take n buf) → n ≡ 0 → IsAtEnd c → IsWhole a c text
Consumes-whole None b c text buf n first more none end = tt
Consumes-whole (Some xs) None c text buf n first more none end = absurd first
Consumes-whole (Some xs) (Some ys) None text buf n first more none end = absurd more
Consumes-whole (Some xs) (Some ys) (Some zs) text buf n first more none end =
    let nothing : ys ≡ [] = more ∙ ap (λ k. take k buf ++ zs) none ∙ ap (λ v. take 0 buf ++ v) end in
    record { all = first ∙ ap (λ v. text ++ v) nothing ∙ append-nil text; to_the_end = ap (λ v. Some v) end }

-- there are at least so many bytes as were taken
pub Consumes-over : (most : ℕ) (a b : Option (List ℕ)) (text : List ℕ) → Consumes a b text → most < length text → IfSome a (λ bytes. most < length bytes)
Consumes-over most None b text taken over = tt
Consumes-over most (Some xs) None text taken over = absurd taken
Consumes-over most (Some xs) (Some ys) text taken over = let e : length xs ≡ length (text ++ ys) = ap length taken in omega (arith, e, length-append text ys)

-- nothing was taken or given, twice
pub Keeps-keeps : (a b c : Option (List ℕ)) → Keeps a b → Keeps b c → Keeps a c
Keeps-keeps None b c first more = tt
Keeps-keeps (Some xs) None c first more = absurd first
Keeps-keeps (Some xs) (Some ys) None first more = absurd more
Keeps-keeps (Some xs) (Some ys) (Some zs) first more = more ∙ first

-- bytes were taken after nothing was
Keeps-consumes : (a b c : Option (List ℕ)) (bs : List ℕ) → Keeps a b → Consumes b c bs → Consumes a c bs
Keeps-consumes None b c bs kept more = tt
Keeps-consumes (Some xs) None c bs kept more = absurd kept
Keeps-consumes (Some xs) (Some ys) None bs kept more = absurd more
Keeps-consumes (Some xs) (Some ys) (Some zs) bs kept more = sym kept ∙ more

-- bytes were given after nothing was
Keeps-appends : (a b c : Option (List ℕ)) (bs : List ℕ) → Keeps a b → Appends b c bs → Appends a c bs
Keeps-appends None b c bs kept more = tt
Keeps-appends (Some xs) None c bs kept more = absurd kept
Keeps-appends (Some xs) (Some ys) None bs kept more = absurd more
Keeps-appends (Some xs) (Some ys) (Some zs) bs kept more = more ∙ ap (λ v. v ++ bs) kept
