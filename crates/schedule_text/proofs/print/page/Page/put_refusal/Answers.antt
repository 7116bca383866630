use Rattle.schedule_text.proofs.print.page.Page.put_refusal.Goals as goal

pub returns-in-NotWaiting-clause-text : goal.returns-in-NotWaiting-clause-text
returns-in-NotWaiting-clause-text c = rw c.in-NotWaiting.is c.put_word-in-NotWaiting.ensures

pub returns-in-NoSection-clause-text : goal.returns-in-NoSection-clause-text
returns-in-NoSection-clause-text c = rw c.in-NoSection.is c.put_word-in-NoSection.ensures

pub returns-in-ExitBegun-clause-text : goal.returns-in-ExitBegun-clause-text
returns-in-ExitBegun-clause-text c = rw c.in-ExitBegun.is c.put_word-in-ExitBegun.ensures

pub returns-in-NoSuchCall-clause-text : goal.returns-in-NoSuchCall-clause-text
returns-in-NoSuchCall-clause-text c = rw c.in-NoSuchCall.is c.put_word-in-NoSuchCall.ensures
