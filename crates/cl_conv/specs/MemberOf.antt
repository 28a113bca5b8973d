-- Member access (N1570 6.5.2.3).
use Rattle.std.specs.Prelude.{◌&&◌, ◌||◌, not, if◌then◌else◌, Bool, true, false, Option, Some, None}
use Rattle.cl_types.specs.declared.types.CType.{CType}
use Rattle.cl_types.specs.declared.types.CType.TheVariants as make
use Rattle.cl_types.specs.declared.unit.Member.{Member}
use Rattle.cl_types.specs.Compatible.{is_error}
use Rattle.cl_types.specs.Qualify.{qualified, qualifiers_of}
use Rattle.cl_conv.specs.declared.members.Access.{Access}
use Rattle.cl_conv.specs.declared.members.Access.TheVariants.{Dot, Arrow}
use Rattle.cl_types.specs.declared.expressions.Operand.{Operand}
use Rattle.cl_conv.specs.Operands.{is_record, target}
use Rattle.cl_conv.specs.Operators.{value}

abbrev pub record_in : Option CType → Option CType
record_in None = None
record_in (Some t) = if is_record t then Some t else None

-- the structure or union whose member is meant: the left operand as it stands, or what it points to (6.5.2.3p1, p2)
abbrev pub accessed : Access → Operand → Option CType
accessed Dot a = record_in (Some a.ty)
accessed Arrow a = record_in (target a.ty)

abbrev pub is_arrow : Access → Bool
is_arrow Arrow = true
is_arrow Dot = false

abbrev pub has_width : {A : Type 0} → Option A → Bool
has_width (Some width) = true
has_width None = false

-- the member's type with that one's qualifiers added; an lvalue behind `->`, and behind `.` where the left operand is one
-- (6.5.2.3p3, p4); a part of a `register` object is one behind `.` alone
abbrev pub part : Access → Operand → Member → CType → Operand
part how a m t = record {
  ty = qualified (qualifiers_of t) m.ty;
  lvalue = is_arrow how || a.lvalue;
  bit_field = has_width m.width;
  register = not (is_arrow how) && a.register;
  null = false;
}

abbrev pub part_by : Access → Operand → Member → Option CType → Option Operand
part_by how a m None = None
part_by how a m (Some t) = Some (part how a m t)

-- access to a member that was found: of an operand in error, in error
abbrev pub member_of : Access → Operand → Member → Option Operand
member_of how a m = if is_error a.ty then Some (value make.Error) else part_by how a m (accessed how a)
