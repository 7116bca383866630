-- Each kind of step keeps the rule.
use Rattle.std.proofs.Common.{◌++◌, ◌||◌, ◌≡◌, ◌≢◌, inl, inr, ℕ, ◌+◌, ◌-◌, ◌/◌, ◌%◌, ◌^◌, ◌<◌, ◌==◌, Bool, true, false, List, [], ◌∷◌, length, refl, arith, ◌∙◌, sym, cond, ap}
use Rattle.std.proofs.Math.ListN.{set, get_or, length-set}
use Rattle.std.proofs.lemmas.Grind.{common_steps}
use mathlib.Core.Option.{some}
use lib.ListN.{get_elem?}
use prog.Atomic.{either}
use Rattle.atomic_table.specs.Table.{State, stepped, keeps}
use Rattle.atomic_table.proofs.Lists.{at_set, at_snoc, set_again, set_else}
use Rattle.phase_bits.specs.Word.{phase_in, readers_in, lock_in}
use Rattle.lazy_threads.specs.declared.view.View.{View}
use Rattle.lazy_threads.specs.declared.view.Hold.TheVariants.{Free, Read, Write}
use Rattle.lazy_threads.specs.Views.{HasInitialized, saw_initialized, fresh, loaded, entered_read, entered_write, looked_write, left_read, left_write, downgraded, split_off, joined}
use Rattle.lazy_threads.specs.Rule.{is_read, is_write, Knows, Keeps, rule, IsCellWord, Finds, FindsOwn}
use Rattle.lazy_threads.proofs.Holds.{one_if, how_many-set, how_many-one, how_many-two, how_many-more}

-- ---- what the rule says of a word and of a view

pub word_is : (word : ℕ) (vs : List View) → Keeps word vs → IsCellWord word
word_is word vs k = record { below = k.below; spare = k.spare; alone = λ h. omega (arith, k.readers, k.alone (omega (arith, k.locked, h))) }

pub some_reader : (word : ℕ) (vs : List View) (id : ℕ) (v : View) → v.hold ≡ Read → Keeps word vs → get_elem? vs id ≡ some v → 0 < readers_in word
some_reader word vs id v held k at = omega (arith, k.readers, how_many-one is_read vs id v at (ap is_read held))

pub finds : (word : ℕ) (vs : List View) (id : ℕ) (v : View) → Keeps word vs → get_elem? vs id ≡ some v → Finds word v
finds word vs id v k at = record { allowed = word_is word vs k; lasts = λ saw. (k.known id v at).seen saw; reader = λ held. some_reader word vs id v held k at }

-- one more phase was seen, which is the word's
front_odd : (n : ℕ) → ((n % 256 % 2 == 1) || false) ≡ true → n % 2 ≡ 1
front_odd n e = grind (arith, e)

odd_by : (n : ℕ) (b : Bool) → ((n % 256 % 2 == 1) || b) ≡ true → (b ≡ true → n % 2 ≡ 1) → n % 2 ≡ 1
odd_by n true e h = h refl
odd_by n false e h = front_odd n e

saw_front : (n : ℕ) (phases : List ℕ) → saw_initialized (n % 256 ∷ phases) ≡ true → (saw_initialized phases ≡ true → HasInitialized n) → HasInitialized n
saw_front n phases saw h = odd_by n (saw_initialized phases) saw h

-- ---- one view changes, and the word with it

-- the rule is kept where the word counts the change, is one that the rule allows, and all views still know it
changed : (word next : ℕ) (vs : List View) (id : ℕ) (v w : View) → Keeps word vs → get_elem? vs id ≡ some v
    → lock_in next + one_if (is_write v.hold) ≡ lock_in word + one_if (is_write w.hold)
    → readers_in next + one_if (is_read v.hold) ≡ readers_in word + one_if (is_read w.hold)
    → IsCellWord next → Knows next w
    → ((j : ℕ) (u : View) → j ≢ id → get_elem? vs j ≡ some u → Knows next u)
    → Keeps next (set vs id w)
changed word next vs id v w k at locked readers is knows others =
    let r = how_many-set is_read vs id v w at in
    let l = how_many-set is_write vs id v w at in
    record {
      locked = omega (arith, l, k.locked, locked);
      readers = omega (arith, r, k.readers, readers);
      alone = λ any. omega (arith, r, k.readers, readers, is.alone (omega (arith, l, k.locked, locked, any)));
      known = λ j u e. elim (at_set vs id j w u e) [
        | inl same ↦ rw (sym same.1) knows
        | inr other ↦ others j u other.0 other.1
      ];
      below = is.below;
      spare = is.spare;
    }

-- a view knows another word with the same phase
same_phase : (word next : ℕ) (vs : List View) → Keeps word vs → phase_in next ≡ phase_in word → (id j : ℕ) (u : View) → j ≢ id → get_elem? vs j ≡ some u → Knows next u
same_phase word next vs k same id j u apart at =
    let was = k.known j u at in
    record { entered = λ h. omega (arith, same, was.entered h); seen = λ h. omega (arith, same, was.seen h) }

-- ---- load

pub loaded-Keeps : (word : ℕ) (vs : List View) (id : ℕ) (v : View) → Keeps word vs → get_elem? vs id ≡ some v → Keeps word (set vs id (loaded word v))
loaded-Keeps word vs id v k at =
    let was = k.known id v at in
    changed word word vs id v (loaded word v) k at refl refl (word_is word vs k)
    (record { entered = λ h. was.entered h; seen = λ h. saw_front word v.seen h (λ i. was.seen i) })
    (λ j u apart there. k.known j u there)

-- ---- read enter and write enter

pub entered_read-Keeps : (word : ℕ) (vs : List View) (id : ℕ) (v : View) → v.hold ≡ Free → word / 2 ^ 29 % 2 ≡ 0 → word / 256 % 2 ^ 20 < 2 ^ 20 - 1 → Keeps word vs → get_elem? vs id ≡ some v → Keeps (word + 256) (set vs id (entered_read word v))
entered_read-Keeps word vs id v free unlocked few k at =
    let was = k.known id v at in
    changed word (word + 256) vs id v (entered_read word v) k at (rw free (omega (arith, few))) (rw free (omega (arith, few)))
    (record { below = omega (arith, k.below, few, k.spare); spare = omega (arith, k.spare, few); alone = λ h. absurd (omega (arith, h, unlocked, few)) })
    (record { entered = λ h. absurd (cc); seen = λ h. omega (arith, was.seen h) })
    (same_phase word (word + 256) vs k (omega arith) id)

pub entered_write-Keeps : (word : ℕ) (vs : List View) (id : ℕ) (v : View) → v.hold ≡ Free → word / 2 ^ 29 % 2 ≡ 0 → word / 256 % 2 ^ 20 ≡ 0 → Keeps word vs → get_elem? vs id ≡ some v → Keeps (word + 2 ^ 29) (set vs id (entered_write word v))
entered_write-Keeps word vs id v free unlocked none k at =
    let was = k.known id v at in
    changed word (word + 2 ^ 29) vs id v (entered_write word v) k at (rw free (omega (arith, unlocked, k.below))) (rw free (omega (arith, k.below)))
    (record { below = omega (arith, k.below, unlocked); spare = omega (arith, k.spare); alone = λ h. omega (arith, none) })
    (record { entered = λ h. omega arith; seen = λ h. omega (arith, was.seen h) })
    (same_phase word (word + 2 ^ 29) vs k (omega arith) id)

pub looked_write-Keeps : (word : ℕ) (vs : List View) (id : ℕ) (v : View) → v.hold ≡ Free → word / 2 ^ 29 % 2 ≡ 0 → word / 256 % 2 ^ 20 ≡ 0 → Keeps word vs → get_elem? vs id ≡ some v → Keeps (word + 2 ^ 29) (set vs id (looked_write word v))
looked_write-Keeps word vs id v free unlocked none k at =
    let was = k.known id v at in
    let entered = entered_write-Keeps word vs id v free unlocked none k at in
    changed word (word + 2 ^ 29) vs id v (looked_write word v) k at (rw free (omega (arith, unlocked, k.below))) (rw free (omega (arith, k.below)))
    (word_is (word + 2 ^ 29) (set vs id (entered_write word v)) entered)
    (record { entered = λ h. omega arith; seen = λ h. let odd : word % 2 ≡ 1 = saw_front word v.seen h (λ i. was.seen i) in omega (arith, odd) })
    (same_phase word (word + 2 ^ 29) vs k (omega arith) id)

-- ---- read leave

pub left_read-Keeps : (word next : ℕ) (vs : List View) (id : ℕ) (v : View) → v.hold ≡ Read → next + 256 ≡ word → Keeps word vs → get_elem? vs id ≡ some v → Keeps next (set vs id (left_read word v))
left_read-Keeps word next vs id v held less k at =
    let was = k.known id v at in
    let any = some_reader word vs id v held k at in
    let unlocked = (word_is word vs k).alone in
    changed word next vs id v (left_read word v) k at (rw held (omega (arith, less, any))) (rw held (omega (arith, less, any)))
    (record { below = omega (arith, less, k.below); spare = omega (arith, less, k.spare, any); alone = λ h. absurd (omega (arith, any, unlocked (omega (arith, less, h, any)))) })
    (record { entered = λ h. absurd (cc); seen = λ h. omega (arith, less, was.seen h) })
    (same_phase word next vs k (omega (arith, less)) id)

-- ---- write leave and downgrade

-- the word beside a write hold is the one that the hold left
write_word : (word : ℕ) (vs : List View) (id : ℕ) (v : View) → v.hold ≡ Write → Keeps word vs → get_elem? vs id ≡ some v → word ≡ v.entered + 2 ^ 29
write_word word vs id v held k at =
    let mine = how_many-one is_write vs id v at (ap is_write held) in
    let lock : word / 2 ^ 29 % 2 ≡ 1 = omega (arith, k.locked, mine) in
    let none : word / 256 % 2 ^ 20 ≡ 0 = omega (arith, k.readers, k.alone mine) in
    let entered = (k.known id v at).entered held in
    omega (arith, k.below, k.spare)

pub finds_own : (word : ℕ) (vs : List View) (id : ℕ) (v : View) → v.hold ≡ Write → Keeps word vs → get_elem? vs id ≡ some v → FindsOwn word v
finds_own word vs id v held k at =
    let entered = (k.known id v at).entered held in
    record { own = write_word word vs id v held k at; phase = omega arith }

-- a word with a phase that a write hold may publish: the other views know it
published : (word next : ℕ) (vs : List View) (id : ℕ) (v : View) → v.hold ≡ Write → (v.entered % 2 ≡ 1 → next % 2 ≡ 1) → Keeps word vs → get_elem? vs id ≡ some v
    → (saw_initialized v.seen ≡ true → next % 2 ≡ 1) × ((j : ℕ) (u : View) → j ≢ id → get_elem? vs j ≡ some u → Knows next u)
published word next vs id v held odd k at =
    let entered = (k.known id v at).entered held in
    let lasts : word % 2 ≡ 1 → next % 2 ≡ 1 = λ h. odd (omega (arith, entered, h)) in (
      (λ saw. lasts ((k.known id v at).seen saw)),
      (λ j u apart there. record {
        entered = λ h. absurd (how_many-two is_write vs id j v u (λ e. apart (sym e)) at there (ap is_write held) (ap is_write h) (omega (arith, k.locked)));
        seen = λ saw. lasts ((k.known j u there).seen saw);
      }),
    )

pub left_write-Keeps : (word next : ℕ) (vs : List View) (id : ℕ) (v : View) → v.hold ≡ Write → next < 256 → (v.entered % 2 ≡ 1 → next % 2 ≡ 1) → Keeps word vs → get_elem? vs id ≡ some v → Keeps next (set vs id (left_write word next v))
left_write-Keeps word next vs id v held below odd k at =
    let own = finds_own word vs id v held k at in
    let knows = published word next vs id v held odd k at in
    changed word next vs id v (left_write word next v) k at (rw held (omega (arith, own.own, own.phase, below))) (rw held (omega (arith, own.own, own.phase, below)))
    (record { below = omega (arith, below); spare = omega (arith, below); alone = λ h. absurd (omega (arith, below, h)) })
    (record { entered = λ h. absurd (cc); seen = λ h. saw_front next v.seen h knows.0 })
    knows.1

pub downgraded-Keeps : (word phase : ℕ) (vs : List View) (id : ℕ) (v : View) → v.hold ≡ Write → phase < 256 → (v.entered % 2 ≡ 1 → phase % 2 ≡ 1) → Keeps word vs → get_elem? vs id ≡ some v → Keeps (phase + 256) (set vs id (downgraded word (phase + 256) v))
downgraded-Keeps word phase vs id v held below odd k at =
    let own = finds_own word vs id v held k at in
    let knows = published word (phase + 256) vs id v held (λ h. omega (arith, odd h)) k at in
    changed word (phase + 256) vs id v (downgraded word (phase + 256) v) k at (rw held (omega (arith, own.own, own.phase, below))) (rw held (omega (arith, own.own, own.phase, below)))
    (record { below = omega (arith, below); spare = omega (arith, below); alone = λ h. absurd (omega (arith, below, h)) })
    (record { entered = λ h. absurd (cc); seen = λ h. saw_front (phase + 256) v.seen h knows.0 })
    knows.1

-- ---- seat split

pub split-Keeps : (word : ℕ) (vs : List View) (id : ℕ) (v : View) → Keeps word vs → get_elem? vs id ≡ some v → Keeps word (set vs id v ++ split_off v ∷ [])
split-Keeps word vs id v k at =
    let r = how_many-more is_read vs (split_off v) in
    let l = how_many-more is_write vs (split_off v) in
    rw (set_again vs id v at) (record {
      locked = omega (arith, l, k.locked);
      readers = omega (arith, r, k.readers);
      alone = λ any. omega (arith, r, k.alone (omega (arith, l, any)));
      known = λ j u e. elim (at_snoc vs (split_off v) u j e) [
        | inl there ↦ k.known j u there
        | inr same ↦ rw (sym same) (record { entered = λ h. absurd (cc); seen = λ h. (k.known id v at).seen h })
      ];
      below = k.below;
      spare = k.spare;
    })

-- ---- seat join

-- what was seen in one of two lists
saw_by : (n : ℕ) (ps rest : List ℕ) (b : Bool) → (b || saw_initialized rest) ≡ true → ((b || saw_initialized ps) ≡ true → HasInitialized n) → (saw_initialized rest ≡ true → (saw_initialized ps ≡ true → HasInitialized n) → HasInitialized n) → HasInitialized n
saw_by n ps rest true saw f g = f refl
saw_by n ps rest false saw f g = g saw f

saw_either : (n : ℕ) (ps qs : List ℕ) → saw_initialized (ps ++ qs) ≡ true → (saw_initialized ps ≡ true → HasInitialized n) → (saw_initialized qs ≡ true → HasInitialized n) → HasInitialized n
saw_either n [] qs saw f g = g saw
saw_either n (p ∷ ps) qs saw f g = saw_by n ps (ps ++ qs) (p % 2 == 1) saw f (λ later h. saw_either n ps qs later h g)

joined-Keeps : (word : ℕ) (vs : List View) (id : ℕ) (v w : View) → (saw_initialized w.seen ≡ true → HasInitialized word) → Keeps word vs → get_elem? vs id ≡ some v → Keeps word (set vs id (joined v w))
joined-Keeps word vs id v w seen k at =
    let was = k.known id v at in
    changed word word vs id v (joined v w) k at refl refl (word_is word vs k)
    (record { entered = λ h. was.entered h; seen = λ h. saw_either word v.seen w.seen h (λ i. was.seen i) seen })
    (λ j u apart there. k.known j u there)

spent-Keeps : (word : ℕ) (vs : List View) (id : ℕ) (v : View) → v.hold ≡ Free → Keeps word vs → get_elem? vs id ≡ some v → Keeps word (set vs id fresh)
spent-Keeps word vs id v free k at =
    changed word word vs id v fresh k at (rw free refl) (rw free refl) (word_is word vs k)
    (record { entered = λ h. absurd (cc); seen = λ h. absurd (cc) })
    (λ j u apart there. k.known j u there)

pub join-Keeps : (word : ℕ) (vs : List View) (id other : ℕ) (v w : View) → w.hold ≡ Free → Keeps word vs → get_elem? vs id ≡ some v → (other ≡ id → ⊥) → get_elem? (set vs id (joined v w)) other ≡ some w → Keeps word (set (set vs id (joined v w)) other fresh)
join-Keeps word vs id other v w free k at apart there =
    let was : get_elem? vs other ≡ some w = rw (set_else vs id other (joined v w) apart) at there in
    spent-Keeps word (set vs id (joined v w)) other w free (joined-Keeps word vs id v w (λ h. (k.known other w was).seen h) k at) there

-- ---- what the table asks of a step

one_word : (ws : List ℕ) (n : ℕ) → length ws ≡ 1 → (get_or (set ws 0 n) 0 0 ≡ n) × (length (set ws 0 n) ≡ 1)
one_word ws n e = (grind (arith, common_steps), length-set ws 0 n ∙ e)

-- the word becomes this one, and the seat's view that one
pub steps : (s : State (Unit {0}) View) (id next : ℕ) (w : View) → length s.words ≡ 1 → Keeps next (set s.views id w) → rule (stepped s 0 next id [] w keeps)
steps s id next w size k = let is = one_word s.words next size in (rw is.0 k, is.1)

found_is : (found judged : ℕ) → (found == judged) ≡ true → found ≡ judged
found_is found judged e = grind arith

-- an exchange that finds the judged word makes the step, and else it is a load
exchange_by : (s : State (Unit {0}) View) (id : ℕ) (v : View) (judged next : ℕ) (enter : ℕ → View) (b : Bool) → (b ≡ true → get_or s.words 0 0 ≡ judged) → rule s → get_elem? s.views id ≡ some v
    → (Keeps judged s.views → Keeps next (set s.views id (enter judged)))
    → rule (stepped s 0 (either b next (get_or s.words 0 0)) id [] (cond b (enter (get_or s.words 0 0)) (loaded (get_or s.words 0 0) v)) keeps)
exchange_by s id v judged next enter false found k at step = steps s id (get_or s.words 0 0) _ k.1 (loaded-Keeps _ s.views id v k.0 at)
exchange_by s id v judged next enter true found k at step =
    let is : get_or s.words 0 0 ≡ judged = found refl in
    let kept : Keeps judged s.views = rw (sym is) k.0 in
    steps s id next _ k.1 (rw is (step kept))

pub exchanges : (s : State (Unit {0}) View) (id : ℕ) (v : View) (judged next : ℕ) (enter : ℕ → View) → rule s → get_elem? s.views id ≡ some v
    → (Keeps judged s.views → Keeps next (set s.views id (enter judged)))
    → rule (stepped s 0 (either (get_or s.words 0 0 == judged) next (get_or s.words 0 0)) id [] (cond (get_or s.words 0 0 == judged) (enter (get_or s.words 0 0)) (loaded (get_or s.words 0 0) v)) keeps)
exchanges s id v judged next enter k at step = exchange_by s id v judged next enter (get_or s.words 0 0 == judged) (found_is _ _) k at step

-- one reader less, as the machine subtracts
pub one_less : (word : ℕ) → word < 2 ^ 30 → 0 < word / 256 % 2 ^ 20 → (word + (2 ^ 64 - 256)) % 2 ^ 64 + 256 ≡ word
one_less word below any = omega arith
