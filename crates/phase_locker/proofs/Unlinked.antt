-- A party leaves a linked list.
use Rattle.std.proofs.Common.{suc, ◌≡◌, ◌≢◌, ◌⊎◌, inl, inr, ℕ, ◌+◌, ◌-◌, ◌<◌, ◌≤◌, List, [], ◌∷◌, ◌++◌, length, refl, arith, ◌∙◌, ap, sym, subst}
use Rattle.std.proofs.Math.ListN.{length-set}
use Rattle.std.proofs.lemmas.List.{append-nil, length-append}
use Rattle.phase_locker.specs.declared.links.Link.{Link}
use Rattle.phase_locker.specs.declared.links.Queue.{Queue}
use Rattle.phase_locker.specs.Rows.{occurs, without}
use Rattle.phase_locker.specs.Links.{link_of, last_of, IsLinked, IsQueue, IsRoster, LinksStay}
use Rattle.phase_locker.proofs.Filters.{eq_self, first_in, occurs-append}
use Rattle.phase_locker.proofs.Linked.{split_at, without-split, linked_same, linked_append, linked_cut, linked_relast, linked_refirst, linked_on, linked_back, link_here, link_there, part_stays, apart_from, last_in}

-- the one before the party, or the queue, leads on to the one behind it
abbrev pub LedPast : List Link → Queue → ℕ → List Link → Queue → Type 0
LedPast links q p mid m =
    ((q.first ≡ p) × (mid ≡ links) × (m ≡ record { count = q.count; first = (link_of links p).next; last = q.last }))
    ⊎ ((q.first ≢ p) × (mid ≡ linked_on links (link_of links p).previous (link_of links p).next) × (m ≡ q))

-- the one behind the party, whose link was this, or the queue, leads back to the one before it
abbrev pub LedBack : List Link → Queue → ℕ → Link → List Link → Queue → Type 0
LedBack mid m p link new n =
    ((m.last ≡ p) × (new ≡ mid) × (n ≡ record { count = m.count; first = m.first; last = link.previous }))
    ⊎ ((m.last ≢ p) × (new ≡ linked_back mid link.next link.previous) × (n ≡ m))

-- a list with a party in it, cut in two
record IsCut (links : List Link) (q : Queue) (p : ℕ) (xs ys : List ℕ) : Type 0 where
  before : ℕ
  behind : ℕ
  front : IsLinked links before q.first xs p
  link : (link_of links p).previous ≡ last_of before xs
  rest : IsLinked links p (link_of links p).next ys behind
  last : q.last ≡ last_of p ys
  once : (x : ℕ) → occurs x (xs ++ p ∷ ys) ≤ 1
  below : (x : ℕ) → 0 < occurs x (xs ++ p ∷ ys) → x < length links
  count : q.count ≡ suc (length xs + length ys)

last_of-append : (b p : ℕ) (xs ys : List ℕ) → last_of b (xs ++ p ∷ ys) ≡ last_of p ys
last_of-append b p [] ys = refl
last_of-append b p (x ∷ xs) ys = last_of-append x p xs ys

length-split : (p : ℕ) (xs ys : List ℕ) → length (xs ++ p ∷ ys) ≡ suc (length xs + length ys)
length-split p [] ys = omega arith
length-split p (x ∷ xs) ys = omega (arith, length-split p xs ys)

cut_of : (links : List Link) (q : Queue) (p : ℕ) (xs ys : List ℕ) → IsQueue links q (xs ++ p ∷ ys) → IsRoster (length links) (xs ++ p ∷ ys) → IsCut links q p xs ys
cut_of links q p xs ys k roster =
    let cut = linked_cut links k.before q.first k.behind p xs ys k.linked in
    record {
      before = k.before;
      behind = k.behind;
      front = cut.0;
      link = cut.1.1;
      rest = cut.1.2;
      last = k.last ∙ last_of-append q.last p xs ys;
      once = roster.once;
      below = roster.below;
      count = k.count ∙ length-split p xs ys;
    }

here_twice : (p : ℕ) (xs ys : List ℕ) → 0 < occurs p xs → occurs p (xs ++ p ∷ ys) ≤ 1 → ⊥
here_twice p xs ys some once = let parts = rw (eq_self p) at (occurs-append p xs (p ∷ ys)) in omega (arith, parts, some, once)

behind_twice : (p : ℕ) (xs ys : List ℕ) → 0 < occurs p ys → occurs p (xs ++ p ∷ ys) ≤ 1 → ⊥
behind_twice p xs ys some once = let parts = rw (eq_self p) at (occurs-append p xs (p ∷ ys)) in omega (arith, parts, some, once)

-- a party of the front is none of the rest
front_alone : (x p : ℕ) (xs ys : List ℕ) → 0 < occurs x xs → occurs x (xs ++ p ∷ ys) ≤ 1 → occurs x ys ≡ 0
front_alone x p xs ys some once = omega (arith, occurs-append x xs (p ∷ ys), some, once)

rest_alone : (x p : ℕ) (xs ys : List ℕ) → 0 < occurs x ys → occurs x (xs ++ p ∷ ys) ≤ 1 → occurs x xs ≡ 0
rest_alone x p xs ys some once = omega (arith, occurs-append x xs (p ∷ ys), some, once)

front_some : (x p : ℕ) (xs ys : List ℕ) → 0 < occurs x xs → 0 < occurs x (xs ++ p ∷ ys)
front_some x p xs ys some = omega (arith, occurs-append x xs (p ∷ ys), some)

rest_some : (x p : ℕ) (xs ys : List ℕ) → 0 < occurs x ys → 0 < occurs x (xs ++ p ∷ ys)
rest_some x p xs ys some = omega (arith, occurs-append x xs (p ∷ ys), some)

rest_once : (x p : ℕ) (xs ys : List ℕ) → occurs x (xs ++ p ∷ x ∷ ys) ≤ 1 → occurs x ys ≡ 0
rest_once x p xs ys once = let parts = rw (eq_self x) at (occurs-append x xs (p ∷ x ∷ ys)) in omega (arith, parts, once)

front_once : (x p : ℕ) (xs ys : List ℕ) → occurs x (xs ++ p ∷ ys) ≤ 1 → occurs x xs ≤ 1
front_once x p xs ys once = omega (arith, occurs-append x xs (p ∷ ys), once)

-- what the front is after the first half
record IsPassed (links mid : List Link) (q m : Queue) (p b e : ℕ) (xs ys : List ℕ) : Type 0 where
  front : IsLinked mid b m.first xs (link_of links p).next
  rest : IsLinked mid p (link_of links p).next ys e
  size : length mid ≡ length links
  last : m.last ≡ q.last
  count : m.count ≡ q.count

passed : (links mid : List Link) (q m : Queue) (p : ℕ) (xs ys : List ℕ) → (k : IsCut links q p xs ys) → LedPast links q p mid m → IsPassed links mid q m p k.before k.behind xs ys
passed links mid q m p [] ys k (inl w) = rw (w.1, w.2) (record { front = refl; rest = k.rest; size = refl; last = refl; count = refl })
passed links mid q m p (x ∷ xs) ys k (inl w) = absurd (here_twice p (x ∷ xs) ys (subst (λ z. 0 < occurs z (x ∷ xs)) (sym k.front.0 ∙ w.0) (first_in x xs)) (k.once p))
passed links mid q m p [] ys k (inr w) = absurd (w.0 k.front)
passed links mid q m p (x ∷ xs) ys k (inr w) =
    let v = (link_of links p).previous in
    let member : 0 < occurs v (x ∷ xs) = subst (λ z. 0 < occurs z (x ∷ xs)) (sym k.link) (last_in x xs) in
    let inside : v < length links = k.below v (front_some v p (x ∷ xs) ys member) in
    let n = (link_of links p).next in
    let on : (y : ℕ) → 0 < occurs y (x ∷ xs) → y ≢ last_of x xs → (link_of (linked_on links v n) y).next ≡ (link_of links y).next = λ y some a. ap (λ (l : Link). l.next) (link_there links v y _ (λ e. a (e ∙ k.link))) in
    let here : (link_of (linked_on links v n) (last_of x xs)).next ≡ n = rw (sym k.link) (ap (λ (l : Link). l.next) (link_here links v _ inside)) in
    let same : (y : ℕ) → 0 < occurs y ys → link_of (linked_on links v n) y ≡ link_of links y = λ y some. link_there links v y _ (λ e. apart_from v y ys (front_alone v p (x ∷ xs) ys member (k.once v)) some e) in
    rw (w.1, w.2)
    (record {
      front = linked_relast links (linked_on links v n) k.before q.first p n x xs (λ y. front_once y p (x ∷ xs) ys (k.once y)) (λ y some. part_stays (λ (l : Link). l.previous) links v y _ inside refl) on here k.front;
      rest = linked_same links (linked_on links v n) p n k.behind ys same k.rest;
      size = length-set links v _;
      last = refl;
      count = refl;
    })

-- what is left after the second half
record IsLeft (new : List Link) (n : Queue) (b v f e : ℕ) (xs ys : List ℕ) : Type 0 where
  front : IsLinked new b n.first xs f
  rest : IsLinked new v f ys e
  last : n.last ≡ last_of n.last (xs ++ ys)

last_front : (v b : ℕ) (xs : List ℕ) → v ≡ last_of b xs → v ≡ last_of v (xs ++ [])
last_front v b [] e = refl
last_front v b (x ∷ xs) e = rw (append-nil xs) e

module _ (links mid new : List Link) (q m n : Queue) (p : ℕ) (xs : List ℕ) where
  left_over : (ys : List ℕ) (k : IsCut links q p xs ys) → IsPassed links mid q m p k.before k.behind xs ys → LedBack mid m p (link_of links p) new n → IsLeft new n k.before (link_of links p).previous (link_of links p).next k.behind xs ys
  left_over [] k h (inl w) = rw (w.1, w.2) (record { front = h.front; rest = h.rest; last = last_front (link_of links p).previous k.before xs k.link })
  left_over [] k h (inr w) = absurd (w.0 (h.last ∙ k.last))
  left_over (y ∷ ys) k h (inl w) = absurd (behind_twice p xs (y ∷ ys) (subst (λ z. 0 < occurs z (y ∷ ys)) (sym k.last ∙ sym h.last ∙ w.0) (last_in y ys)) (k.once p))
  left_over (y ∷ ys) k h (inr w) =
      let v = (link_of links p).previous in
      let f = (link_of links p).next in
      let member : 0 < occurs f (y ∷ ys) = subst (λ z. 0 < occurs z (y ∷ ys)) (sym h.rest.0) (first_in y ys) in
      let inside : f < length mid = omega (arith, h.size, k.below f (rest_some f p xs (y ∷ ys) member)) in
      let none : occurs f xs ≡ 0 = rest_alone f p xs (y ∷ ys) member (k.once f) in
      let alone : occurs y ys ≡ 0 = rest_once y p xs ys (k.once y) in
      let fresh = link_here mid f (record { next = (link_of mid f).next; previous = v }) inside in
      let fresh_y : link_of (linked_back mid f v) y ≡ record { next = (link_of mid f).next; previous = v } = ap (λ x. link_of (linked_back mid f v) x) (sym h.rest.0) ∙ fresh in
      let same : (x : ℕ) → 0 < occurs x ys → link_of (linked_back mid f v) x ≡ link_of mid x = λ x some. link_there mid f x _ (λ e. apart_from y x ys alone some (e ∙ h.rest.0)) in
      rw (w.1, w.2)
      (record {
        front = linked_same mid (linked_back mid f v) k.before m.first f xs (λ x some. link_there mid f x _ (apart_from f x xs none some)) h.front;
        rest = linked_refirst mid (linked_back mid f v) p v f k.behind y ys (ap (λ (l : Link). l.previous) fresh_y) (ap (λ (l : Link). l.next) fresh_y ∙ ap (λ x. (link_of mid x).next) h.rest.0) same h.rest;
        last = h.last ∙ k.last ∙ sym (last_of-append m.last y xs ys);
      })

kept_count : (m n : Queue) (p : ℕ) (mid new : List Link) (link : Link) → LedBack mid m p link new n → n.count ≡ m.count
kept_count m n p mid new link (inl w) = ap (λ (x : Queue). x.count) w.2
kept_count m n p mid new link (inr w) = ap (λ (x : Queue). x.count) w.2

module _ (links mid new : List Link) (q m n : Queue) (p : ℕ) (past : LedPast links q p mid m) (back : LedBack mid m p (link_of links p) new n) where
  unlinked_cut : (xs ys : List ℕ) → IsCut links q p xs ys → IsQueue new (record { count = n.count - 1; first = n.first; last = n.last }) (xs ++ ys)
  unlinked_cut xs ys k =
      let h = passed links mid q m p xs ys k past in
      let left = left_over links mid new q m n p xs ys k h back in
      record {
        before = k.before;
        behind = k.behind;
        linked = linked_append new k.before n.first (link_of links p).next k.behind xs ys left.front (subst (λ z. IsLinked new z (link_of links p).next ys k.behind) k.link left.rest);
        last = left.last;
        count = omega (arith, kept_count m n p mid new (link_of links p) back, h.count, k.count, length-append xs ys);
      }

  unlinked_at : (ps xs ys : List ℕ) → ps ≡ xs ++ p ∷ ys → IsQueue links q ps → IsRoster (length links) ps → IsQueue new (record { count = n.count - 1; first = n.first; last = n.last }) (without p ps)
  unlinked_at ps xs ys e k roster =
      let k' = rw e at k in
      let roster' = rw e at roster in
      rw (e, without-split p xs ys (roster'.once p)) (unlinked_cut xs ys (cut_of links q p xs ys k' roster'))

  -- unlink
  pub unlinked : (ps : List ℕ) → IsQueue links q ps → IsRoster (length links) ps → 0 < occurs p ps → IsQueue new (record { count = n.count - 1; first = n.first; last = n.last }) (without p ps)
  unlinked ps k roster some = let s = split_at p ps some in unlinked_at ps s.front s.rest s.is k roster

-- ---- the neighbours of a party

previous_cut : (links : List Link) (q : Queue) (p : ℕ) (xs ys : List ℕ) → IsCut links q p xs ys → q.first ≢ p → 0 < occurs (link_of links p).previous (xs ++ p ∷ ys)
previous_cut links q p [] ys k n = absurd (n k.front)
previous_cut links q p (x ∷ xs) ys k n = front_some _ p (x ∷ xs) ys (subst (λ z. 0 < occurs z (x ∷ xs)) (sym k.link) (last_in x xs))

next_cut : (links : List Link) (q : Queue) (p : ℕ) (xs ys : List ℕ) → IsCut links q p xs ys → q.last ≢ p → 0 < occurs (link_of links p).next (xs ++ p ∷ ys)
next_cut links q p xs [] k n = absurd (n k.last)
next_cut links q p xs (y ∷ ys) k n = rest_some _ p xs (y ∷ ys) (subst (λ z. 0 < occurs z (y ∷ ys)) (sym k.rest.0) (first_in y ys))

module _ (links : List Link) (q : Queue) (p : ℕ) where
  neighbours_at : (ps xs ys : List ℕ) → ps ≡ xs ++ p ∷ ys → IsQueue links q ps → IsRoster (length links) ps → (q.first ≢ p → 0 < occurs (link_of links p).previous ps) × (q.last ≢ p → 0 < occurs (link_of links p).next ps)
  neighbours_at ps xs ys e k roster =
      let cut = cut_of links q p xs ys (rw e at k) (rw e at roster) in
      rw e ((λ n. previous_cut links q p xs ys cut n), (λ n. next_cut links q p xs ys cut n))

  pub neighbours : (ps : List ℕ) → IsQueue links q ps → IsRoster (length links) ps → 0 < occurs p ps → (q.first ≢ p → 0 < occurs (link_of links p).previous ps) × (q.last ≢ p → 0 < occurs (link_of links p).next ps)
  neighbours ps k roster some = let s = split_at p ps some in neighbours_at ps s.front s.rest s.is k roster

pub passed_last : (links mid : List Link) (q m : Queue) (p : ℕ) → LedPast links q p mid m → (m.last ≡ q.last) × (length mid ≡ length links)
passed_last links mid q m p (inl w) = (ap (λ (x : Queue). x.last) w.2, ap (λ (l : List Link). length l) w.1)
passed_last links mid q m p (inr w) = (ap (λ (x : Queue). x.last) w.2, ap (λ (l : List Link). length l) w.1 ∙ length-set links _ _)

past_there : (links mid : List Link) (q m : Queue) (p x : ℕ) (ps : List ℕ) → (q.first ≢ p → 0 < occurs (link_of links p).previous ps) → occurs x ps ≡ 0 → LedPast links q p mid m → link_of mid x ≡ link_of links x
past_there links mid q m p x ps before none (inl w) = ap (λ l. link_of l x) w.1
past_there links mid q m p x ps before none (inr w) = ap (λ l. link_of l x) w.1 ∙ link_there links _ x _ (λ e. apart_from x _ ps none (before w.0) (sym e))

back_there : (mid new : List Link) (m n : Queue) (p x : ℕ) (link : Link) (ps : List ℕ) → (m.last ≢ p → 0 < occurs link.next ps) → occurs x ps ≡ 0 → LedBack mid m p link new n → link_of new x ≡ link_of mid x
back_there mid new m n p x link ps behind none (inl w) = ap (λ l. link_of l x) w.1
back_there mid new m n p x link ps behind none (inr w) = ap (λ l. link_of l x) w.1 ∙ link_there mid _ x _ (λ e. apart_from x _ ps none (behind w.0) (sym e))

pub unlinked_others : (links mid new : List Link) (q m n : Queue) (p : ℕ) (ps : List ℕ) → IsQueue links q ps → IsRoster (length links) ps → 0 < occurs p ps → LedPast links q p mid m → LedBack mid m p (link_of links p) new n → LinksStay ps links new
unlinked_others links mid new q m n p ps k roster some past back x none =
    let beside = neighbours links q p ps k roster some in
    let same = passed_last links mid q m p past in
    back_there mid new m n p x (link_of links p) ps (λ a. beside.1 (λ e. a (same.0 ∙ e))) none back ∙ past_there links mid q m p x ps beside.0 none past
