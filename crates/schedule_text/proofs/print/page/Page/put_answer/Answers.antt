use Rattle.std.proofs.Common.{sym}
use Rattle.schedule_text.proofs.print.page.Page.put_answer.Goals as goal

pub returns-in-Finalizing-clause-text : goal.returns-in-Finalizing-clause-text
returns-in-Finalizing-clause-text c = rw (c.in-Finalizing.is, sym c.from.ensures) c.put_numbered-in-Finalizing.ensures.text
