-- The parties of a linked list are given shares, one after the other.
use Rattle.std.proofs.Common.{suc, ◌≡◌, ℕ, ◌+◌, ◌-◌, ◌<◌, ◌≤◌, List, [], ◌∷◌, refl, arith, ◌∙◌, ap}
use Rattle.std.proofs.Math.ListN.{set}
use Rattle.phase_locker.specs.declared.ways.Row.{Row}
use Rattle.phase_locker.specs.declared.ways.Waiting.TheVariants as way
use Rattle.phase_locker.specs.declared.links.Link.{Link}
use Rattle.phase_locker.specs.Rows.{occurs, shared}
use Rattle.phase_locker.specs.Links.{link_of, walk}
use Rattle.phase_locker.proofs.Filters.{first_in}

pub walk_more : (n i : ℕ) (links : List Link) (p : ℕ) → i < n → walk (n - i) links p ≡ p ∷ walk (n - (i + 1)) links (link_of links p).next
unfolding walk
walk_more n i links p h = let e : n - i ≡ suc (n - (i + 1)) = omega arith in rw e refl

pub walk_end : (n i : ℕ) (links : List Link) (p : ℕ) → n ≤ i → walk (n - i) links p ≡ []
unfolding walk
walk_end n i links p h = let e : n - i ≡ 0 = omega arith in rw e refl

pub shared_none : (c : ℕ) (rows : List Row) → shared c [] rows ≡ rows
unfolding shared
shared_none c rows = refl

shared_first : (c p : ℕ) (ps : List ℕ) (rows : List Row) → shared c (p ∷ ps) rows ≡ shared c ps (set rows p (record { waiting = way.ShareRead; cell = c }))
unfolding shared
shared_first c p ps rows = refl

-- take all: the shares go on by one party
pub shared_more : (c n i p : ℕ) (links : List Link) (rows : List Row) → i < n → shared c (walk (n - i) links p) rows ≡ shared c (walk (n - (i + 1)) links (link_of links p).next) (set rows p (record { waiting = way.ShareRead; cell = c }))
shared_more c n i p links rows h = ap (λ ps. shared c ps rows) (walk_more n i links p h) ∙ shared_first c p _ rows

pub below_first : (n i p k : ℕ) (links : List Link) → i < n → ((q : ℕ) → 0 < occurs q (walk (n - i) links p) → q < k) → p < k
below_first n i p k links h below = below p (rw (walk_more n i links p h) (first_in p _))

pub below_rest : (n i p k : ℕ) (links : List Link) → i < n → ((q : ℕ) → 0 < occurs q (walk (n - i) links p) → q < k) → (q : ℕ) → 0 < occurs q (walk (n - (i + 1)) links (link_of links p).next) → q < k
below_rest n i p k links h below q some = below q (rw (walk_more n i links p h) (omega (arith, some)))
