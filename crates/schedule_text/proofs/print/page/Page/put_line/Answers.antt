use Rattle.std.proofs.Common.{◌++◌, ◌∷◌, [], List, ℕ, refl}
use Rattle.std.specs.Prelude.{codes}
use Rattle.std.specs.Fmt.{decimal}
use Rattle.schedule_text.proofs.PrintPieces.{put-two}
use Rattle.schedule_text.proofs.PrintWords.{gift_behind}
use Rattle.schedule_text.proofs.print.page.Page.put_line.Goals as goal

pub returns-in-Readers : goal.returns-in-Readers
returns-in-Readers c =
    gift_behind c.args.self.now _ c.take_off.new.self _ (codes " gives readers\n") c.args.line.now.answer c.args.line.now.given
    c.put_answer.ensures.text c.take_off.ensures c.put_word.ensures (rw c.in-Readers.is refl)

pub returns-in-Writer : goal.returns-in-Writer
returns-in-Writer c =
    let last : List ℕ = decimal c.from.result ++ (10 ∷ []) in
    gift_behind c.args.self.now _ c.take_off-in-Writer.new.self _ (codes " gives writer " ++ last) c.args.line.now.answer c.args.line.now.given
    c.put_answer.ensures.text c.take_off-in-Writer.ensures
    (put-two _ _ _ _ _ c.put_word-in-Writer.ensures c.put_decimal.ensures.text) (rw (c.in-Writer.is, c.from.ensures) refl)
