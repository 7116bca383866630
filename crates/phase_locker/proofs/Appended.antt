-- A party comes to the end of a linked list.
use Rattle.std.proofs.Common.{◌≡◌, ◌≢◌, ◌⊎◌, inl, inr, ◌==◌, ℕ, ◌+◌, ◌<◌, List, [], ◌∷◌, ◌++◌, length, refl, arith, ◌∙◌, ap, sym, subst, cond}
use Rattle.std.proofs.Math.ListN.{set, length-set}
use Rattle.phase_locker.specs.declared.links.Link.{Link}
use Rattle.phase_locker.specs.declared.links.Queue.{Queue}
use Rattle.phase_locker.specs.Rows.{occurs}
use Rattle.phase_locker.specs.Links.{link_of, last_of, IsQueue, IsRoster, LinksStay}
use Rattle.phase_locker.proofs.Filters.{occurs-append, length-snoc}
use Rattle.phase_locker.proofs.Linked.{linked_append, linked_relast, linked_on, link_here, link_there, part_stays, apart_from, last_in, last_of-snoc}

last_member : (y x : ℕ) (xs : List ℕ) → y ≡ last_of x xs → 0 < occurs y (x ∷ xs)
last_member y x xs e = subst (λ z. 0 < occurs z (x ∷ xs)) (sym e) (last_in x xs)

-- the last party of a list that has one
pub queue_last : (links : List Link) (q : Queue) (ps : List ℕ) → IsQueue links q ps → q.count ≢ 0 → 0 < occurs q.last ps
queue_last links q [] k some = absurd (some k.count)
queue_last links q (p ∷ ps) k some = last_member q.last p ps k.last

appended_first : (links : List Link) (q : Queue) (p : ℕ) (ps : List ℕ) → p < length links → q.count ≡ 0 → IsQueue links q ps → IsQueue (set links p (record { next = p; previous = q.last })) (record { count = q.count + 1; first = p; last = p }) (ps ++ p ∷ [])
appended_first links q p [] inside none k =
    let link = link_here links p (record { next = p; previous = q.last }) inside in
    record {
      before = q.last;
      behind = p;
      linked = (refl, ap (λ (x : Link). x.previous) link, ap (λ (x : Link). x.next) link);
      last = refl;
      count = omega (arith, none);
    }
appended_first links q p (x ∷ xs) inside none k = absurd (omega (arith, none, k.count))

module _ (links : List Link) (q : Queue) (p x : ℕ) (xs : List ℕ) (inside : p < length links) (roster : IsRoster (length links) (x ∷ xs)) (none : occurs p (x ∷ xs) ≡ 0) (k : IsQueue links q (x ∷ xs)) where
  abbrev joined : List Link
  joined = set (linked_on links q.last p) p (record { next = p; previous = q.last })

  last_inside : q.last < length links
  last_inside = roster.below q.last (last_member q.last x xs k.last)

  last_apart : q.last ≢ p
  last_apart = apart_from p q.last (x ∷ xs) none (last_member q.last x xs k.last)

  back : (y : ℕ) → 0 < occurs y (x ∷ xs) → (link_of joined y).previous ≡ (link_of links y).previous
  back y some = ap (λ (v : Link). v.previous) (link_there (linked_on links q.last p) p y _ (apart_from p y (x ∷ xs) none some)) ∙ part_stays (λ (v : Link). v.previous) links q.last y _ last_inside refl

  on : (y : ℕ) → 0 < occurs y (x ∷ xs) → y ≢ last_of x xs → (link_of joined y).next ≡ (link_of links y).next
  on y some n =
      ap (λ (v : Link). v.next) (link_there (linked_on links q.last p) p y _ (apart_from p y (x ∷ xs) none some) ∙ link_there links q.last y _ (λ e. n (e ∙ k.last)))

  behind_last : (link_of joined (last_of x xs)).next ≡ p
  behind_last =
      rw (sym k.last) (ap (λ (v : Link). v.next) (link_there (linked_on links q.last p) p q.last _ last_apart ∙ link_here links q.last _ last_inside))

  appended_more : IsQueue joined (record { count = q.count + 1; first = q.first; last = p }) ((x ∷ xs) ++ p ∷ [])
  appended_more =
      let link = link_here (linked_on links q.last p) p (record { next = p; previous = q.last }) (omega (arith, inside, length-set links q.last (record { next = p; previous = (link_of links q.last).previous }))) in
      let front = linked_relast links joined k.before q.first k.behind p x xs roster.once back on behind_last k.linked in
      record {
        before = k.before;
        behind = p;
        linked = linked_append joined k.before q.first p p (x ∷ xs) (p ∷ []) front (refl, ap (λ (v : Link). v.previous) link ∙ k.last, ap (λ (v : Link). v.next) link);
        last = sym (last_of-snoc x p xs);
        count = omega (arith, k.count, length-snoc xs p);
      }

appended_next : (links : List Link) (q : Queue) (p : ℕ) (ps : List ℕ) → p < length links → q.count ≢ 0 → IsRoster (length links) ps → occurs p ps ≡ 0 → IsQueue links q ps →
    IsQueue (set (linked_on links q.last p) p (record { next = p; previous = q.last })) (record { count = q.count + 1; first = q.first; last = p }) (ps ++ p ∷ [])
appended_next links q p [] inside some roster none k = absurd (some k.count)
appended_next links q p (x ∷ xs) inside some roster none k = appended_more links q p x xs inside roster none k

-- the link of the last party leads on to the one that comes
abbrev pub LedOn : List Link → Queue → ℕ → List Link → Queue → Type 0
LedOn links q p mid m =
    ((q.count ≡ 0) × (mid ≡ links) × (m ≡ record { count = q.count; first = p; last = q.last }))
    ⊎ ((q.count ≢ 0) × (mid ≡ linked_on links q.last p) × (m ≡ q))

-- append
pub appended : (links mid : List Link) (q m : Queue) (p : ℕ) (ps : List ℕ) → p < length links → IsRoster (length links) ps → occurs p ps ≡ 0 → IsQueue links q ps → LedOn links q p mid m →
    IsQueue (set mid p (record { next = p; previous = q.last })) (record { count = m.count + 1; first = m.first; last = p }) (ps ++ p ∷ [])
appended links mid q m p ps inside roster none k (inl w) = rw (w.1, w.2) (appended_first links q p ps inside w.0 k)
appended links mid q m p ps inside roster none k (inr w) = rw (w.1, w.2) (appended_next links q p ps inside w.0 roster none k)

not_last_one : (p x : ℕ) (ps : List ℕ) → occurs x (ps ++ p ∷ []) ≡ 0 → (x ≢ p) × (occurs x ps ≡ 0)
not_last_one p x ps h =
    let parts = occurs-append x ps (p ∷ []) in
    let apart : cond {A = ℕ} (p == x) 1 0 ≡ 0 = omega (arith, parts, h) in
    ((λ e. grind (arith, apart, e)), omega (arith, parts, h))

pub appended_others : (links mid : List Link) (q m : Queue) (p : ℕ) (ps : List ℕ) → IsQueue links q ps → LedOn links q p mid m → LinksStay (ps ++ p ∷ []) links (set mid p (record { next = p; previous = q.last }))
appended_others links mid q m p ps k (inl w) x h =
    let n = not_last_one p x ps h in
    link_there mid p x _ n.0 ∙ ap (λ l. link_of l x) w.1
appended_others links mid q m p ps k (inr w) x h =
    let n = not_last_one p x ps h in
    link_there mid p x _ n.0 ∙ ap (λ l. link_of l x) w.1 ∙ link_there links q.last x _ (λ e. apart_from x q.last ps n.1 (queue_last links q ps k w.0) (sym e))
