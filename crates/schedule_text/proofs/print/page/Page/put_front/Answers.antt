use Rattle.std.proofs.Common.{◌∙◌}
use Rattle.schedule_text.proofs.PrintNumerals.{put_and_off}
use Rattle.schedule_text.proofs.print.page.Page.put_front.Goals as goal

pub returns : goal.returns
returns c = c.take_off.ensures ∙ put_and_off c.args.self.now c.args.text.now c.put.new.self c.args.count c.put.ensures c.requires.count
