-- What the words of the program ask for.
use Rattle.std.specs.Prelude.{ℕ, ◌+◌, ◌&&◌, ◌||◌, ◌==◌, nat_eq, nat_le, List, [], ◌∷◌, ◌++◌, length, take, drop, Bool, true, false, if◌then◌else◌, Option, Some, None, option_map, codes}
use Rattle.std.specs.List.{list_all, position_or_len, starts_with}
use Rattle.std.specs.Str.{bytes_eq}
use Rattle.cl_base.specs.declared.config.Define.{Define}
use Rattle.clsd.specs.declared.command.Command.{Command}
use Rattle.clsd.specs.declared.command.Command.TheVariants.{Serial, Bad}
use Rattle.clsd.specs.declared.command.Next.{Next}
use Rattle.clsd.specs.declared.command.Next.TheVariants.{Word, Folder, Macro}
use Rattle.clsd.specs.declared.command.Said.{Said}

-- ---- what a word sets

-- a letter or an underscore, and these or a digit (N1570 6.4.2.1)
abbrev pub is_nondigit : ℕ → Bool
is_nondigit c = (nat_le 65 c && nat_le c 90) || (nat_le 97 c && nat_le c 122) || c == 95

abbrev pub is_name_byte : ℕ → Bool
is_name_byte c = is_nondigit c || (nat_le 48 c && nat_le c 57)

abbrev pub is_identifier : List ℕ → Bool
is_identifier [] = false
is_identifier (c ∷ cs) = is_nondigit c && list_all is_name_byte cs

-- the macro of `NAME=TEXT`, or of `NAME`, whose text is `1`
abbrev pub length_of_name : List ℕ → ℕ
length_of_name text = position_or_len (λ b. b == 61) text

abbrev pub text_behind : List ℕ → List ℕ
text_behind [] = codes "1"
text_behind (equals ∷ text) = text

abbrev pub define_in : List ℕ → Option Define
define_in text =
    if is_identifier (take (length_of_name text) text)
    then Some (record { name = take (length_of_name text) text; text = text_behind (drop (length_of_name text) text) })
    else None

-- ---- one word more

-- what stands behind a mark, where a word begins with it
abbrev pub behind : List ℕ → List ℕ → Option (List ℕ)
behind mark word = if starts_with nat_eq word mark then Some (drop (length mark) word) else None

-- a folder of headers begins with `/`
abbrev pub folder_said : Said → List ℕ → Option Said
folder_said said folder =
    if starts_with nat_eq folder (codes "/") then Some (record said { next = Word; includes = said.includes ++ folder ∷ [] }) else None

abbrev pub macro_said : Said → List ℕ → Option Said
macro_said said text = option_map (λ (d : Define). record said { next = Word; defines = said.defines ++ d ∷ [] }) (define_in text)

-- the number of workers is said once at most, and is 0
abbrev pub workers_said : Said → List ℕ → Option Said
workers_said said word =
    if bytes_eq word (codes "--workers=0") then (if said.counted then None else Some (record said { counted = true })) else None

-- the value of an option stands behind its two letters or, where nothing does, is the next word
abbrev pub macro_or_other : Said → List ℕ → Option (List ℕ) → Option Said
macro_or_other said word (Some []) = Some (record said { next = Macro })
macro_or_other said word (Some (c ∷ text)) = macro_said said (c ∷ text)
macro_or_other said word None = workers_said said word

abbrev pub folder_or_other : Said → List ℕ → Option (List ℕ) → Option Said
folder_or_other said word (Some []) = Some (record said { next = Folder })
folder_or_other said word (Some (c ∷ folder)) = folder_said said (c ∷ folder)
folder_or_other said word None = macro_or_other said word (behind (codes "-D") word)

abbrev pub option_or_value : Next → Said → List ℕ → Option Said
option_or_value Word said word = folder_or_other said word (behind (codes "-I") word)
option_or_value Folder said word = folder_said said word
option_or_value Macro said word = macro_said said word

-- with this word more; None where it fits no rule
abbrev pub said_with : Said → List ℕ → Option Said
said_with said word = option_or_value said.next said word

-- ---- all words

-- nothing but `serve`
abbrev pub nothing_said : Said
nothing_said = record { counted = false; next = Word; includes = []; defines = [] }

-- no word is left, and the n-th was the last
abbrev pub ended_with : ℕ → Next → Said → Command
ended_with n Word said = Serial (record { includes = said.includes; defines = said.defines })
ended_with n next said = Bad (n + 1)

-- these words come after the n-th; where that fits no rule, nothing is known
abbrev pub words_in : ℕ → Option Said → List (List ℕ) → Command
words_in n None words = Bad n
words_in n (Some said) [] = ended_with n said.next said
words_in n (Some said) (word ∷ words) = words_in (n + 1) (said_with said word) words

abbrev pub command_in : List (List ℕ) → Command
command_in [] = Bad 0
command_in (word ∷ words) = if bytes_eq word (codes "serve") then words_in 0 (Some nothing_said) words else Bad 0
