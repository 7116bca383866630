-- What a gift on one cell makes of the waits and the rows, whomever it is for.
use Rattle.waiting_rows.proofs.Words.{Shows, IsSingle, AreWithin, ◌≡◌, ℕ, ◌<◌, List, length, refl, true, None, Some, ◌∙◌, ap, Holders, Given, Rows, IsSound, rows_handed}
use Rattle.waiting_rows.proofs.Words.{MayHand, MayShare, CellPlan, Step, Event, Wait, wait_of, wake_reader, wake_writer, wake_readers, waits_given_with, cell_concerned_with}
use Rattle.waiting_rows.proofs.Words.{reaches, given_on, IsListed}
use Rattle.waiting_rows.proofs.{Finding.changed, Finding.wait_readers, Finding.wait_writer, Single.single_readers, Single.single_writer, Reaching.reaches_writer}
use Rattle.waiting_rows.proofs.{Reaching.reaches_readers, ShowsHanded.shows_handed_readers, ShowsHanded.shows_handed_writer, Within.within_readers, Within.within_writer}

-- so it is with what may be handed on
pub listed_hand : (c : ℕ) (x : Holders) (s : Rows) (g : Given) → MayHand c x s g → IsListed c s g
listed_hand c x s Given.Nobody may = tt
listed_hand c x s _ may = may.1

-- and with what may be given at a downgrade
pub listed_share : (c : ℕ) (s : Rows) (g : Given) → MayShare c s g → IsListed c s g
listed_share c s Given.Nobody may = tt
listed_share c s (Given.Writer q) may = absurd may
listed_share c s Given.Readers may = may

-- a step gives on the cell that it concerns
pub given_concerned : (cells : List CellPlan) (all : List Wait) (h : List Event) (s : Step) (c : ℕ) (g : Given) (ws : List Wait) → cell_concerned_with cells all h s.party s.act ≡ Some c → waits_given_with cells all h s g ws ≡ given_on c g ws
given_concerned cells all h s c Given.Readers ws e = ap (λ o. wake_readers o ws) e
given_concerned cells all h s c _ ws e = refl

-- the gift reaches those that it is for
pub reaches_given : (c : ℕ) (g : Given) (ws : List Wait) (s : Rows) → Shows ws s → IsListed c s g → reaches c g ws ≡ true
reaches_given c Given.Nobody ws s shows is = refl
reaches_given c (Given.Writer q) ws s shows is = reaches_writer q c ws s shows is
reaches_given c Given.Readers ws s shows is = reaches_readers c ws s shows is

-- each party still waits once at most
pub single_on : (c : ℕ) (g : Given) (ws : List Wait) → IsSingle ws → IsSingle (given_on c g ws)
single_on c Given.Nobody ws single = single
single_on c (Given.Writer q) ws single = single_writer q ws single
single_on c Given.Readers ws single = single_readers c ws single

-- at a known cell
pub within_on : (n c : ℕ) (g : Given) (ws : List Wait) → AreWithin n ws → AreWithin n (given_on c g ws)
within_on n c Given.Nobody ws all = all
within_on n c (Given.Writer q) ws all = within_writer n q ws all
within_on n c Given.Readers ws all = within_readers n c ws all

-- a party that does not wait is given nothing
pub none_on : (p c : ℕ) (g : Given) (ws : List Wait) → wait_of p ws ≡ None → wait_of p (given_on c g ws) ≡ None
none_on p c Given.Nobody ws none = none
none_on p c (Given.Writer q) ws none = wait_writer q p ws ∙ ap (changed (wake_writer q)) none
none_on p c Given.Readers ws none = wait_readers c p ws ∙ ap (changed (wake_reader c)) none

-- the rows show who waits
pub shows_on : (c : ℕ) (g : Given) (ws : List Wait) (s : Rows) → c < length s.readers → IsSound s → Shows ws s → IsListed c s g → Shows (given_on c g ws) (rows_handed c g s)
shows_on c Given.Nobody ws s inside sound shows is = shows
shows_on c (Given.Writer q) ws s inside sound shows is = shows_handed_writer q c ws s inside sound shows is
shows_on c Given.Readers ws s inside sound shows is = shows_handed_readers c ws s inside sound shows
