-- The definitions at a few words and lines, by computation. Assumes nothing.
use Rattle.std.proofs.Common.{◌≡◌, [], ◌∷◌, Some, None, Ok, Err, codes, refl}
use Rattle.text.specs.Commands.{command_of}
use Rattle.text.specs.Numerals.{whole_of, decimal_of}
use Rattle.text.specs.Readers.{unreadable}
use Rattle.text.specs.Words.{words}
use Rattle.text.specs.declared.commands.Command.TheVariants.{Line, Take}

seven_digits : whole_of (codes "1234567") ≡ Some 1234567
seven_digits = refl

eight_digits : whole_of (codes "12345678") ≡ None
eight_digits = refl

half : decimal_of (codes "3.5") ≡ Some 3500000
half = refl

ten : decimal_of (codes "10") ≡ Some 10000000
ten = refl

small : decimal_of (codes "0.0143") ≡ Some 14300
small = refl

no_front : decimal_of (codes ".5") ≡ None
no_front = refl

no_back : decimal_of (codes "1.") ≡ None
no_back = refl

two_points : decimal_of (codes "1.2.3") ≡ None
two_points = refl

long : decimal_of (codes "12345") ≡ None
long = refl

signed : decimal_of (codes "+1") ≡ None
signed = refl

empty : decimal_of (codes "") ≡ None
empty = refl

between_spaces : words (codes "I  2") ≡ codes "I" ∷ codes "" ∷ codes "2" ∷ []
between_spaces = refl

line : command_of (codes "L 1.5 2.25 0.0143 40 7") ≡ Ok (Line 1500000 2250000 14300 40 7)
line = refl

take : command_of (codes "I 3 12") ≡ Ok (Take 3 12)
take = refl

missing : command_of (codes "I 3") ≡ Err (unreadable 3)
missing = refl

extra : command_of (codes "O 3 12") ≡ Err (unreadable 3)
extra = refl

bad : command_of (codes "O x") ≡ Err (unreadable 2)
bad = refl

no_letter : command_of (codes "") ≡ Err (unreadable 1)
no_letter = refl

two_letters : command_of (codes "OO 1") ≡ Err (unreadable 1)
two_letters = refl

spaced_twice : command_of (codes "O  1") ≡ Err (unreadable 2)
spaced_twice = refl
