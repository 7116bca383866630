use Rattle.std.proofs.Common.{◌≡◌, ◌<◌, ◌+◌, suc, length, arith}
use Rattle.lazy_cells.proofs.Lists.{may_next, next_started, stops, to_place}
use Rattle.lazy_cells.proofs.start_list.start_all.Goals as goal

pub start_at-requires-clause-exit : goal.start_at-requires-clause-exit
start_at-requires-clause-exit g c =
    let l = c.loop-index in
    may_next _ _ c.args.cells.now c.args.reg.now l.index l.cells l.reg l.invariant c.requires.exit c.requires.distinct

pub returns-in-Err : goal.returns-in-Err
returns-in-Err g c =
    let l = c.loop-index in
    let inside : l.index < length c.args.cells.now = omega arith in
    stops _ _ c.args.cells.now c.args.reg.now l.index l.cells l.reg l.invariant c.in-Err.error c.start_at.new.cells c.start_at.new.reg inside c.in-Err.ensures

pub loop-index-preserved : goal.loop-index-preserved
loop-index-preserved g c =
    let l = c.loop-index in
    to_place _ _ c.args.cells.now c.start_at.new.cells c.args.reg.now c.start_at.new.reg (suc l.index) (l.index + 1) (omega arith)
    (next_started _ _ c.args.cells.now c.args.reg.now l.index l.cells l.reg l.invariant c.in_default.field-0 c.start_at.new.cells c.start_at.new.reg c.in_default.ensures)

pub returns : goal.returns
returns g c =
    let l = c.loop-index in
    let all : l.index ≡ length c.args.cells.now = omega arith in
    to_place _ _ c.args.cells.now l.cells c.args.reg.now l.reg l.index (length c.args.cells.now) all l.invariant
