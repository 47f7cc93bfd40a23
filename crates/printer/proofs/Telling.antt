-- Words compared byte by byte, and that each printed line is told by its word.
use Prim.Native.Nat.{ℕ}
use mathlib.Core.Path.{◌≡◌, refl, sym, ◌∙◌}
use mathlib.Core.Bool.{Bool}
use mathlib.Core.List.{List, [], ◌∷◌, ◌++◌}
use lib.Dec.{eqb}
use borrow.Author.Tests.{eq-eqb, ne_eqb}
use Rattle.names.proofs.Equal.{by_eq}
use Rattle.std.specs.List.{starts_with}
use Rattle.printer.specs.Lines.{accepted_line, refused_line, bind_line, fresh_line, holds_word, newline}
use Rattle.printer.specs.Kinds.{begins, kind_of}
use Rattle.printer.specs.declared.Kind.TheVariants.{Accepted, Refused, Bind, Fresh, Holds}

starts_begins : (word s : List ℕ) → starts_with eqb s word ≡ begins word s
unfolding begins
starts_begins [] s = refl
starts_begins (a ∷ word) [] = refl
starts_begins (a ∷ word) (b ∷ s) =
    by_eq b a (λ e. rw (eq-eqb b a e, eq-eqb a b (sym e)) (starts_begins word s)) (λ d. rw (ne_eqb b a d, ne_eqb a b (λ e. d (sym e))))

-- What the library's test said.
pub told : (word s : List ℕ) {r b : Bool} → r ≡ starts_with eqb s word → r ≡ b → begins word s ≡ b
told word s e f = sym (starts_begins word s) ∙ sym e ∙ f

-- Whatever follows a printed line, it is told.
pub accepted_told : (steps : ℕ) (t : List ℕ) → kind_of (accepted_line steps ++ t) ≡ Accepted
unfolding kind_of begins accepted_line
accepted_told steps t = refl

pub refused_told : (number place : ℕ) (t : List ℕ) → kind_of (refused_line number place ++ t) ≡ Refused
unfolding kind_of begins refused_line
refused_told number place t = refl

pub bind_told : (variable node : ℕ) (images t : List ℕ) → kind_of (bind_line variable node images ++ t) ≡ Bind
unfolding kind_of begins bind_line
bind_told variable node images t = refl

pub fresh_told : (atom variable : ℕ) (t : List ℕ) → kind_of (fresh_line atom variable ++ t) ≡ Fresh
unfolding kind_of begins fresh_line
fresh_told atom variable t = refl

pub holds_told : (t : List ℕ) → kind_of ((holds_word ++ newline) ++ t) ≡ Holds
unfolding kind_of begins
holds_told t = refl
