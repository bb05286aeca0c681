-- `place_first` meets its contract. Assumes nothing.
use mathlib.Core.Path.{◌≡◌}
use native.Mathlib.Omega.{arith}
use Rattle.aiger_order.proofs.NewsLaws.{starts, starts-next}
use borrow.Author.Rules.{rules}
use Rattle.aiger_order.proofs.orders.place_first.Goals as goal

pub loop-v-init : goal.loop-v-init
loop-v-init c = (search rules, starts c.args.news.now c.requires.0, search rules)

pub bounds-news-v : goal.bounds-news-v
bounds-news-v c = let s = c.loop-v.invariant.1 in search rules

pub loop-v-preserved : goal.loop-v-preserved
loop-v-preserved c = (search rules, starts-next _ _ c.loop-v.invariant.1 (omega arith), search rules)

pub shape_of-news : goal.shape_of-news
shape_of-news c = c.loop-v.invariant.2

pub returns : goal.returns
returns c =
    let i = c.loop-v.invariant in
    let e : c.loop-v.v ≡ c.args.first.0 = omega arith in
    rw e at i.1
