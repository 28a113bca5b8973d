-- The digits of a line's number, behind others.
use Rattle.std.specs.Prelude.{ℕ, ◌&&◌, nat_le, Bool, List}
use Rattle.std.specs.List.{list_all}
use Rattle.cl_pp.specs.LineNumbers.{is_digit, number_from}

abbrev pub is_number_of : ℕ → List ℕ → Bool
is_number_of n digits = list_all is_digit digits && (nat_le 1 (number_from n digits) && nat_le (number_from n digits) 2147483647)
