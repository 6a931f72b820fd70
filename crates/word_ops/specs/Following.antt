-- Runs that do what other runs do (notions of this project).
use Rattle.std.specs.Prelude.{◌≡◌, Option, Some, None}
use Rattle.word_ops.specs.Store.{Value, Number, Pointer}
use Rattle.word_ops.specs.Run.{Run, Gives, Ends, Undefined, Turn, Again, Over}

-- where the first run is defined, the second ends alike, in a state and with a result that stand in the relation
abbrev pub Follows : {S A T B : Type 0} → (S → A → T → B → Type 0) → Run S A → Run T B → Type 0
Follows {S} {A} {T} {B} P (Gives s w a) r = (t : T) × (b : B) × (r ≡ Gives t w b) × P s a t b
Follows P (Ends e w) r = r ≡ Ends e w
Follows P Undefined r = Unit {0}

-- what two steps of following give
abbrev pub Through : {S A T B U C : Type 0} → (S → A → T → B → Type 0) → (T → B → U → C → Type 0) → S → A → U → C →
    Type 0
Through {S} {A} {T} {B} P Q s a u c = (t : T) × (b : B) × P s a t b × Q t b u c

-- both loops go on in states that stand in the first relation, or both are left with results that stand in the second
abbrev pub TurnsAlike : {S D T E : Type 0} → (S → T → Type 0) → (S → D → T → E → Type 0) → S → Turn D → T → Turn E →
    Type 0
TurnsAlike I Q s Again t Again = I s t
TurnsAlike I Q s (Over d) t (Over e) = Q s d t e
TurnsAlike I Q s _ t _ = ⊥

-- a result of main that ends the whole with the same status
abbrev pub SameStatus : Option Value → Option Value → Type 0
SameStatus None b = b ≡ None
SameStatus (Some (Number n)) b = b ≡ Some (Number n)
SameStatus (Some (Pointer r o)) b = Unit {0}

-- nothing is given behind the end of main
abbrev pub Never : {S A T B : Type 0} → S → A → T → B → Type 0
Never s a t b = ⊥
