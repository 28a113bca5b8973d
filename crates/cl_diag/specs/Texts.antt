-- What is said of each fault.
use Rattle.std.specs.Prelude.{ℕ, ◌==◌, ◌||◌, Bool, List, [], ◌∷◌, ◌++◌, if◌then◌else◌, Option, Some, None, codes, slice_get, unwrap_or}
use Rattle.cl_base.specs.declared.token.Diag.{Diag}
use Rattle.cl_lossy.specs.Lossy.{shown}

-- the texts of the faults by their numbers; none is 0. Where one ends in an open quote, a name goes on
unfoldable pub texts : List (List ℕ)
texts =
    [] ∷ codes "unterminated comment" ∷ codes "missing closing quote" ∷ codes "invalid byte" ∷ codes "null character" ∷
    codes "unknown directive" ∷ codes "directive needs a name" ∷ codes "extra tokens after directive" ∷ codes "invalid include" ∷
    codes "header cannot be read" ∷ codes "includes nested too deeply" ∷ codes "header not found" ∷ codes "no matching #if" ∷
    codes "after #else" ∷ codes "unterminated #if" ∷ codes "invalid #if expression" ∷ codes "macro '" ∷
    codes "macro expansion too large" ∷ codes "invalid macro definition" ∷ codes "wrong number of macro arguments" ∷
    codes "unterminated macro invocation" ∷ codes "pasting gives no token" ∷ codes "#error directive" ∷ codes "invalid #line" ∷
    codes "stray token" ∷ codes "integer constant too large" ∷ codes "invalid escape sequence" ∷ codes "mixed string prefixes" ∷
    codes "syntax error" ∷ codes "undeclared identifier '" ∷ codes "conflicting declaration of '" ∷ codes "redefinition of '" ∷
    codes "'" ∷ codes "incomplete type" ∷ codes "invalid type specifiers" ∷ codes "invalid type" ∷
    codes "invalid specifier" ∷ codes "invalid bit-field" ∷ codes "invalid array length" ∷ codes "constant expression needed" ∷
    codes "no member '" ∷ codes "invalid operands" ∷ codes "not assignable" ∷ codes "incompatible types" ∷
    codes "invalid call" ∷ codes "invalid label '" ∷ codes "misplaced statement" ∷ codes "static assertion failed" ∷
    codes "invalid initializer" ∷ []

unfoldable pub wording : ℕ → List ℕ
wording number = unwrap_or (slice_get texts number) []

-- the bytes of a name, as text
abbrev pub name_text : Option (List ℕ) → List ℕ
name_text None = []
name_text (Some name) = shown name

abbrev pub speaks_of_a_name : ℕ → Bool
speaks_of_a_name n = n == 16 || (n == 29 || (n == 30 || (n == 31 || (n == 32 || (n == 40 || n == 45)))))

-- what stands behind the name
abbrev pub tail : ℕ → List ℕ
tail n = if n == 16 then codes "' redefined" else if n == 32 then codes "' is another kind of tag" else codes "'"

abbrev pub rest_of : Diag → List ℕ
rest_of diag = if speaks_of_a_name diag.number then name_text diag.name ++ tail diag.number else []

abbrev pub text : Diag → List ℕ
text diag = wording diag.number ++ rest_of diag
