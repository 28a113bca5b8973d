use Rattle.cl_expr.specs.code.Parses.{other}
use Rattle.cl_expr.proofs.Joins.{led_here}
use Rattle.cl_expr.proofs.reader.Grammar.led.Goals as goal

pub loop-other-preserved : goal.loop-other-preserved
loop-other-preserved g c = λ l. c.loop-other.invariant (other c.in-Some.this c.in-Some-2.that (rw c.in-Some.is at c.in_ok-this.ensures) (rw c.in-Some-2.is at c.in_ok-that.ensures) c.if-this-that.false l)

pub returns : goal.returns
returns g c = λ e. c.loop-other.invariant
    (led_here c.args.self.now.tokens.now c.args.high c.loop-other.one c.loop-other.other c.loop-other.at (c.same_scope.ensures e) (c.is_type_at-typed.ensures c.if-not-typed.false))
