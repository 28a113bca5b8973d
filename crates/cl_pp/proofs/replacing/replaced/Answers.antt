use Rattle.std.proofs.Common.{refl}
use Rattle.cl_pp.specs.code.Keeping.{before_of, lookup, number_of}
use Rattle.cl_pp.proofs.Replaces.{by_path, replaced_is}
use Rattle.cl_pp.proofs.replacing.replaced.Goals as goal

pub returns-clause-done : goal.returns-clause-done
returns-clause-done g c = λ w s v. record {
  all = c.in_ok-all.all;
  expands = by_path w (lookup (g.B.MacroBase.macros c.args.base.now) c.args.table.now) (number_of (g.B.MacroBase.events c.args.base.now) c.args.table.now) c.args.file.now.path.now c.args.run.now c.in_ok-all.all s.path (c.in_ok-all.ensures w.one_token w.text s.tells s.lines v);
  made = refl;
  is = replaced_is (before_of c.args.reach) c.in_ok-all.all c.args.made.now.done c.look_all.new.made.done _ _ _ c.in_ok-look_all.ensures.done c.as_slice.ensures.value c.as_slice-2.ensures.value refl refl refl refl refl refl
      c.in_ok-add_uses.ensures c.in_ok-append.ensures;
}
