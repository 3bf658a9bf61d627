-- Tests as the code makes them.
use Rattle.std.specs.Prelude.{◌≡◌, refl, Bool, true, false, not, eqb}
use Rattle.std.proofs.Math.Bool.{beq}
use mir.Val.{bool_byte}
use denote.Enum.Bare.{sameb}
use Rattle.property.specs.contracts.line.Property.{the_type}
use Rattle.property.specs.declared.line.Property.{Property}
use Rattle.property.specs.declared.line.Property.TheVariants.{Start, Continue, White}
use Rattle.tally.specs.Answers.{number_of, one, other}

pub other_differs : (answer want : Bool) → not (beq answer want) ≡ other answer want
other_differs true true = refl
other_differs true false = refl
other_differs false true = refl
other_differs false false = refl

pub one_byte : (yes' : Bool) → bool_byte yes' ≡ one yes'
one_byte true = refl
one_byte false = refl

pub same_number : (p q : Property) → sameb the_type p q ≡ eqb (number_of p) (number_of q)
same_number Start Start = refl
same_number Start Continue = refl
same_number Start White = refl
same_number Continue Start = refl
same_number Continue Continue = refl
same_number Continue White = refl
same_number White Start = refl
same_number White Continue = refl
same_number White White = refl
