-- Lists that are linked by number: how a party comes to the end of one, and how it leaves.
use Rattle.std.proofs.Common.{inl, inr, ◌≡◌, ◌≢◌, ◌==◌, ℕ, ◌<◌, ◌≤◌, List, [], ◌∷◌, ◌++◌, length, refl, arith, ◌∙◌, ap, sym, subst, not}
use Rattle.std.proofs.lemmas.List.Elements.{filter-append}
use Rattle.std.proofs.Math.ListN.{set}
use Rattle.std.proofs.lemmas.List.{get_or-set_other, get_or-set_same}
use Rattle.std.proofs.lemmas.Bool.{cases_eq}
use Rattle.phase_locker.specs.declared.links.Link.{Link}
use Rattle.phase_locker.specs.declared.links.Queue.{Queue}
use Rattle.phase_locker.specs.Rows.{occurs, without}
use Rattle.phase_locker.specs.Links.{link_of, walk, listed, last_of, IsLinked, IsQueue}
use Rattle.phase_locker.proofs.Filters.{eq_self, ne_zero, first_in, occurs-append, without_absent}

-- ---- a list that is linked

-- walking a linked list gives it
pub walk-linked : (links : List Link) (b h e : ℕ) (ps : List ℕ) → IsLinked links b h ps e → walk (length ps) links h ≡ ps
unfolding walk
walk-linked links b h e [] l = refl
walk-linked links b h e (p ∷ ps) l = rw l.0 (ap (λ xs. p ∷ xs) (walk-linked links p (link_of links p).next e ps l.2))

pub listed_is : (links : List Link) (q : Queue) (ps : List ℕ) → IsQueue links q ps → listed links q ≡ ps
listed_is links q ps k = rw k.count (walk-linked links k.before q.first k.behind ps k.linked)

-- other links do not matter
pub linked_same : (links new : List Link) (b h e : ℕ) (ps : List ℕ) → ((x : ℕ) → 0 < occurs x ps → link_of new x ≡ link_of links x) → IsLinked links b h ps e → IsLinked new b h ps e
linked_same links new b h e [] same l = l
linked_same links new b h e (p ∷ ps) same l =
    let here = same p (first_in p ps) in
    (l.0, ap (λ (x : Link). x.previous) here ∙ l.1, rw (ap (λ (x : Link). x.next) here) (linked_same links new p (link_of links p).next e ps (λ x k. same x (omega (arith, k))) l.2))

pub queue_same : (links new : List Link) (q : Queue) (ps : List ℕ) → ((x : ℕ) → 0 < occurs x ps → link_of new x ≡ link_of links x) → IsQueue links q ps → IsQueue new q ps
queue_same links new q ps same k = record {
  before = k.before;
  behind = k.behind;
  linked = linked_same links new k.before q.first k.behind ps same k.linked;
  last = k.last;
  count = k.count;
}

-- two lists, one behind the other
pub linked_append : (links : List Link) (b h m e : ℕ) (xs ys : List ℕ) → IsLinked links b h xs m → IsLinked links (last_of b xs) m ys e → IsLinked links b h (xs ++ ys) e
linked_append links b h m e [] ys l k = rw l k
linked_append links b h m e (x ∷ xs) ys l k = (l.0, l.1, linked_append links x (link_of links x).next m e xs ys l.2 k)

pub linked_cut : (links : List Link) (b h e p : ℕ) (xs ys : List ℕ) → IsLinked links b h (xs ++ p ∷ ys) e → IsLinked links b h xs p × IsLinked links (last_of b xs) p (p ∷ ys) e
linked_cut links b h e p [] ys l = (l.0, (refl, l.1, l.2))
linked_cut links b h e p (x ∷ xs) ys l =
    let rest = linked_cut links x (link_of links x).next e p xs ys l.2 in
    ((l.0, l.1, rest.0), rest.1)

-- ---- the last of a list

once_tail : (p x : ℕ) (ps : List ℕ) → occurs x (p ∷ ps) ≤ 1 → occurs x ps ≤ 1
once_tail p x ps h = omega (arith, h)

pub last_in : (p : ℕ) (ps : List ℕ) → 0 < occurs (last_of p ps) (p ∷ ps)
last_in p [] = rw (eq_self p) (omega arith)
last_in p (q ∷ qs) = omega (arith, last_in q qs)

not_last : (p q : ℕ) (qs : List ℕ) → occurs p (p ∷ q ∷ qs) ≤ 1 → p ≢ last_of q qs
not_last p q qs h = λ e.
    let here : 0 < occurs p (q ∷ qs) = subst (λ x. 0 < occurs x (q ∷ qs)) (sym e) (last_in q qs) in
    let once = rw (eq_self p) at h in
    omega (arith, once, here)

pub last_of-snoc : (b p : ℕ) (ps : List ℕ) → last_of b (ps ++ p ∷ []) ≡ p
last_of-snoc b p [] = refl
last_of-snoc b p (q ∷ qs) = last_of-snoc q p qs

-- another party stands behind the last
pub linked_relast : (links new : List Link) (b h e v p : ℕ) (ps : List ℕ) → ((x : ℕ) → occurs x (p ∷ ps) ≤ 1) →
    ((x : ℕ) → 0 < occurs x (p ∷ ps) → (link_of new x).previous ≡ (link_of links x).previous) →
    ((x : ℕ) → 0 < occurs x (p ∷ ps) → x ≢ last_of p ps → (link_of new x).next ≡ (link_of links x).next) →
    (link_of new (last_of p ps)).next ≡ v → IsLinked links b h (p ∷ ps) e → IsLinked new b h (p ∷ ps) v
linked_relast links new b h e v p [] once back on behind l = (l.0, back p (first_in p []) ∙ l.1, behind)
linked_relast links new b h e v p (q ∷ qs) once back on behind l =
    let next = linked_relast links new p (link_of links p).next e v q qs (λ x. once_tail p x (q ∷ qs) (once x)) (λ x k. back x (omega (arith, k))) (λ x k n. on x (omega (arith, k)) n) behind l.2 in
    (l.0, back p (first_in p (q ∷ qs)) ∙ l.1, rw (on p (first_in p (q ∷ qs)) (not_last p q qs (once p))) next)

-- another party stands before the first
pub linked_refirst : (links new : List Link) (b v h e p : ℕ) (ps : List ℕ) → (link_of new p).previous ≡ v → (link_of new p).next ≡ (link_of links p).next → ((x : ℕ) → 0 < occurs x ps → link_of new x ≡ link_of links x) →
    IsLinked links b h (p ∷ ps) e → IsLinked new v h (p ∷ ps) e
linked_refirst links new b v h e p ps before on same l = (l.0, before, rw on (linked_same links new p (link_of links p).next e ps same l.2))

-- ---- a party in the middle

pub record IsSplit (p : ℕ) (ps : List ℕ) : Type 0 where
  pub front : List ℕ
  pub rest : List ℕ
  pub is : ps ≡ front ++ p ∷ rest

pub split_at : (p : ℕ) (ps : List ℕ) → 0 < occurs p ps → IsSplit p ps
split_at p [] h = absurd (omega (arith, h))
split_at p (x ∷ xs) h =
    elim (cases_eq x p) [
      | inl e ↦ record { front = []; rest = xs; is = ap (λ n. n ∷ xs) e }
      | inr n ↦ let s = split_at p xs (omega (arith, h, ne_zero x p n)) in record { front = x ∷ s.front; rest = s.rest; is = ap (λ ys. x ∷ ys) s.is }
    ]

pub without_self : (p : ℕ) (ys : List ℕ) → without p (p ∷ ys) ≡ without p ys
without_self p ys = rw (eq_self p) refl

pub without-split : (p : ℕ) (xs ys : List ℕ) → occurs p (xs ++ p ∷ ys) ≤ 1 → without p (xs ++ p ∷ ys) ≡ xs ++ ys
without-split p xs ys h =
    let parts = rw (eq_self p) at (occurs-append p xs (p ∷ ys)) in
    filter-append (λ q. not (q == p)) xs (p ∷ ys) ∙ rw (without_absent p xs (omega (arith, h, parts)), without_self p ys, without_absent p ys (omega (arith, h, parts))) refl

-- ---- a link that changes

-- the party is linked on to another one
abbrev pub linked_on : List Link → ℕ → ℕ → List Link
linked_on links p n = set links p (record { next = n; previous = (link_of links p).previous })

-- the party is linked back to another one
abbrev pub linked_back : List Link → ℕ → ℕ → List Link
linked_back links p b = set links p (record { next = (link_of links p).next; previous = b })

pub link_here : (links : List Link) (p : ℕ) (v : Link) → p < length links → link_of (set links p v) p ≡ v
link_here links p v inside = get_or-set_same links p v (record { next = 0; previous = 0 }) inside

pub link_there : (links : List Link) (p x : ℕ) (v : Link) → x ≢ p → link_of (set links p v) x ≡ link_of links x
link_there links p x v n = get_or-set_other links p x v (record { next = 0; previous = 0 }) n

-- a part that a changed link keeps
pub part_stays : (f : Link → ℕ) (links : List Link) (p x : ℕ) (v : Link) → p < length links → f v ≡ f (link_of links p) → f (link_of (set links p v) x) ≡ f (link_of links x)
part_stays f links p x v inside same =
    elim (cases_eq x p) [ inl e ↦ rw (e, link_here links p v inside) same | inr n ↦ ap f (link_there links p x v n) ]

pub apart_from : (p q : ℕ) (ps : List ℕ) → occurs p ps ≡ 0 → 0 < occurs q ps → q ≢ p
apart_from p q ps none some e = let here : 0 < occurs p ps = subst (λ x. 0 < occurs x ps) e some in omega (arith, none, here)
