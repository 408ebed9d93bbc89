-- The words of a command line, and the command that they spell.
use Rattle.std.specs.Prelude.{◌≡◌, ◌==◌, ◌&&◌, ◌||◌, ◌++◌, Bool, true, false, not, List, [], ◌∷◌, slice_get}
use Rattle.std.specs.Prelude.{Option, Some, None, option_map, codes, bytes_eq, if◌then◌else◌}
use Rattle.std.specs.Borrow.{Bor}
use Rattle.std.specs.List.{after_first, before_first}
use Rattle.command_line.specs.Values.{Text, first_of, texts, value_at}
use Rattle.client_files.specs.CachePaths.{IsDefaultCache, path_in}
use Rattle.client_files.specs.Configs.{has_realm}
use Rattle.client_login.specs.declared.ticket_requests.Renewal.{Renewal}
use Rattle.client_login.specs.declared.ticket_requests.Renewal.TheVariants as renewals
use Rattle.client_files.specs.declared.host.Host.{Host}
use Rattle.kclient.specs.declared.commands.Command.{Command}
use Rattle.kclient.specs.declared.commands.CommandKind.{CommandKind}
use Rattle.kclient.specs.declared.commands.CommandKind.TheVariants.{Kinit, Renew, Kvno, Klist, Kdestroy}

-- ---- words

abbrev pub text_of : Option (Bor Text) → Option Text
text_of named = option_map (λ text. text.now) named

-- the name of the subcommand, after that of the program
abbrev pub command_of : List Text → Option Text
command_of words = slice_get words 1

-- ---- options

-- the options whose value is the next word
abbrev pub takes_file : Text → Bool
takes_file word =
    bytes_eq word (codes "--cache") || (bytes_eq word (codes "--keytab") || (bytes_eq word (codes "--password-file")
    || bytes_eq word (codes "--seed")))

abbrev pub takes_value : Text → Bool
takes_value word =
    bytes_eq word (codes "--kdc") || (bytes_eq word (codes "--realm") || (bytes_eq word (codes "--name")
    || (bytes_eq word (codes "--service") || (bytes_eq word (codes "--life") || (bytes_eq word (codes "--start")
    || (bytes_eq word (codes "--least-count") || takes_file word))))))

-- a word is the value of the option before it, if that takes one
abbrev pub is_value_next : Bool → Text → Bool
is_value_next is_value word = not is_value && takes_value word

-- behind the word `--`, unless it is a value, there is no option
abbrev pub is_end : Bool → Text → Bool
is_end is_value word = not is_value && bytes_eq word (codes "--")

-- the first value of an option
abbrev pub value_of : List Text → Text → Option Text
value_of [] option = None
value_of (word ∷ others) option =
    if bytes_eq word (codes "--") then None else first_of (value_at option word others) (value_of others option)

-- what is there, as a list
abbrev pub listed : {A : Type 0} → Option A → List A
listed None = []
listed (Some one) = one ∷ []

-- all values of an option, in their order
abbrev pub values_of : List Text → Text → List Text
values_of [] option = []
values_of (word ∷ others) option =
    if bytes_eq word (codes "--") then [] else listed (value_at option word others) ++ values_of others option

-- a flag is an option without a value
abbrev pub is_flag : Bool → Text → Text → Bool
is_flag is_value word flag = not is_value && bytes_eq word flag

abbrev pub has_flag_in : Bool → List Text → Text → Bool
has_flag_in is_value [] flag = false
has_flag_in is_value (word ∷ others) flag =
    if is_end is_value word then false
    else is_flag is_value word flag || has_flag_in (is_value_next is_value word) others flag

-- it is among the words after the program's name
abbrev pub has_flag : List Text → Text → Bool
has_flag [] flag = false
has_flag (program ∷ others) flag = has_flag_in false others flag

-- ---- names

-- a word of more than a hyphen that begins with one
abbrev pub is_option : Text → Bool
is_option (octet ∷ other ∷ octets) = octet == 0x2D
is_option (octet ∷ []) = false
is_option [] = false

-- a word that is neither an option nor the value of one is a name; behind the word `--` each is one
abbrev pub name_at : Bool → Text → List Text
name_at is_value word = if not is_value && not (is_option word) then word ∷ [] else []

abbrev pub plain_words : Bool → List Text → List Text
plain_words is_value [] = []
plain_words is_value (word ∷ others) =
    if is_end is_value word then others
    else name_at is_value word ++ plain_words (is_value_next is_value word) others

-- the names of principals: the plain words after the command, and the values of --name
abbrev pub names_of : List Text → List Text
names_of (program ∷ command ∷ others) = plain_words false others ++ values_of others (codes "--name")
names_of (program ∷ []) = []
names_of [] = []

-- what stands before the `@` (40) of a name with a realm
abbrev pub name_in : Text → Text
name_in word = if has_realm word then before_first (λ b. b == 0x40) word else word

-- the realm behind the name, or else the value of --realm
abbrev pub realm_in : Text → Option Text → Option Text
realm_in word option = if has_realm word then Some (after_first (λ b. b == 0x40) word) else option

-- ---- the help

-- the subcommand is `help`
abbrev pub is_help : Option Text → Bool
is_help (Some command) = bytes_eq command (codes "help")
is_help None = false

abbrev pub begins_help : List Text → Bool
begins_help words = is_help (command_of words)

-- the help or the version is asked for
abbrev pub asks_help : List Text → Bool
asks_help words =
    begins_help words || (has_flag words (codes "--help") || (has_flag words (codes "-h")
    || (has_flag words (codes "--version") || has_flag words (codes "-V"))))

-- ---- the command

abbrev pub IsRenewalSpelled : List Text → Renewal → Type 0
IsRenewalSpelled words renewals.Renew =
    (has_flag words (codes "--renew") ≡ true) × (has_flag words (codes "--validate") ≡ false)
IsRenewalSpelled words renewals.Validate =
    (has_flag words (codes "--renew") ≡ false) × (has_flag words (codes "--validate") ≡ true)

abbrev pub IsKindSpelled : List Text → CommandKind → Type 0
IsKindSpelled words Kinit =
    (command_of words ≡ Some (codes "kinit")) × (has_flag words (codes "--renew") ≡ false)
    × (has_flag words (codes "--validate") ≡ false)
IsKindSpelled words (Renew renewal) = (command_of words ≡ Some (codes "kinit")) × IsRenewalSpelled words renewal
IsKindSpelled words Kvno = command_of words ≡ Some (codes "kvno")
IsKindSpelled words Klist = command_of words ≡ Some (codes "klist")
IsKindSpelled words Kdestroy = command_of words ≡ Some (codes "kdestroy")

-- the command that the words of a command line spell
pub record Spells (words : List Text) (command : Command) : Type 0 where
  pub kind : IsKindSpelled words command.kind
  pub cache : text_of command.cache ≡ value_of words (codes "--cache")
  pub names : texts command.names.items ≡ names_of words
  pub realm : text_of command.realm ≡ value_of words (codes "--realm")

-- ---- the path of its cache

-- of the name of a cache, or of the default one
abbrev pub IsCacheNamed : Option Text → Host → Text → Type 0
IsCacheNamed (Some name) host path = path ≡ path_in name
IsCacheNamed None host path = IsDefaultCache host path

abbrev pub IsCacheOf : Command → Host → Text → Type 0
IsCacheOf command host path = IsCacheNamed (text_of command.cache) host path
