-- The `else`s of an `if`, of which some were walked: their scopes are still open.
-- The answers of `others_row` cite these lemmas, by `Turns`.
use Rattle.std.proofs.Common.{◌≡◌, ◌∙◌, refl, ap, sym, ℕ, ◌≤◌, ◌<◌, ⊎_elim, min, List, [], ◌∷◌, ◌++◌, Option, Some, None, take, length, append_assoc, arith}
use Rattle.std.proofs.lemmas.Bool.{cases_lt}
use Rattle.std.proofs.lemmas.List.{append-nil, length-take, take-take, take_all}
use Rattle.c_tree.specs.declared.typed.expression.TExpr.{TExpr}
use Rattle.c_tree.specs.declared.typed.statement.TStmt.{TStmt}
use Rattle.c_tree.specs.declared.typed.statement.Branch.{Branch}
use Rattle.c_typing.specs.declared.fault.Fault.{Fault}
use Rattle.c_typing.specs.declared.scope.State.{State}
use Rattle.c_typing.specs.Scopes.{Walk, Said, give, ◌>>=◌, asked, both_asked, closed, scoped}
use Rattle.c_typing.specs.Scopes as scopes
use Rattle.c_typing.specs.OfStatements.{Stated, branch, empty}
use Rattle.c_type_walk.specs.Walks.{Gave}
use Rattle.c_type_walk.specs.declared.found.Found.{Found}
use Rattle.c_type_statements.specs.declared.branches.Opened.{Opened}
use Rattle.c_type_walk.proofs.Walked.{then, gives, asks_nothing}
use Rattle.c_type_statements.specs.Statements.{empty_block, lower, closed_to, closed_all, opened_by, both_branches, with_one, branch_row}

-- branches, and then others with what is done where no condition holds
abbrev pub before : Option (List Branch) → Option (List Branch × TStmt) → Option (List Branch × TStmt)
before (Some bs) (Some r) = Some (bs ++ r.0, r.1)
before _ _ = None

pub record ElsesLeft (all : Walk (List Branch × TStmt)) (outer : scopes.Around) (rest : Walk (List Branch × TStmt)) (inner : scopes.Around) (old now : Found) (branches : Option (List Branch)) (opened : Opened) : Type 0 where
  pub given : (all outer old.state).given ≡ before branches (rest inner now.state).given
  pub faults : old.faults ++ (all outer old.state).faults ≡ now.faults ++ (rest inner now.state).faults
  pub state : (all outer old.state).state ≡ closed_all opened (rest inner now.state).state

-- one branch and then others
abbrev pub consed : Option Branch → Option (List Branch × TStmt) → Option (List Branch × TStmt)
consed (Some b) (Some r) = Some (b ∷ r.0, r.1)
consed _ _ = None

abbrev consed_said : Option TExpr → Option TStmt → Option (List Branch × TStmt) → State → Said (List Branch × TStmt)
consed_said k a r s = record { faults = []; given = consed (both_branches k a) r; state = s }

conses : (k : Option TExpr) (a : Option TStmt) (r : Option (List Branch × TStmt)) (c : scopes.Around) (s : State) →
    both_asked k a (λ k a. asked r (λ r. give (branch k a ∷ r.0, r.1))) c s ≡ consed_said k a r s
conses None None r c s = refl
conses None (Some a) r c s = refl
conses (Some k) None r c s = refl
conses (Some k) (Some a) None c s = refl
conses (Some k) (Some a) (Some r) c s = refl

before-consed : (bs : Option (List Branch)) (b : Option Branch) (r : Option (List Branch × TStmt)) → before bs (consed b r) ≡ before (with_one bs b) r
before-consed None b r = refl
before-consed (Some bs) None r = refl
before-consed (Some bs) (Some b) None = refl
before-consed (Some bs) (Some b) (Some r) = ap (λ (l : List Branch). Some (l, r.1)) (sym (append_assoc bs (b ∷ []) r.0))

before-none : (r : Option (List Branch × TStmt)) → before (Some []) r ≡ r
before-none None = refl
before-none (Some r) = refl

pub elses_begun : (all : Walk (List Branch × TStmt)) (c : scopes.Around) (old : Found) → ElsesLeft all c all c old old (Some []) (record { marks = None })
elses_begun all c old = record { given = sym (before-none (all c old.state).given); faults = refl; state = refl }

-- what a scope drops that begins within another one, the other one drops too
take-lower : {A : Type 0} (m n : ℕ) (xs : List A) → take m (take n xs) ≡ take (min m n) xs
take-lower m n xs = ⊎_elim inner outer (cases_lt n m)
  where
    outer : m ≤ n → take m (take n xs) ≡ take (min m n) xs
    outer h = let e : min m n ≡ m = omega arith in take-take m n xs h ∙ ap (λ (k : ℕ). take k xs) (sym e)

    inner : n < m → take m (take n xs) ≡ take (min m n) xs
    inner h =
        let e : min m n ≡ n = omega arith in
        let short : length (take n xs) ≤ m = omega (arith, length-take n xs) in
        take_all m (take n xs) short ∙ ap (λ (k : ℕ). take k xs) (sym e)

closed-within : (o : Option (ℕ × ℕ)) (n m : ℕ) (s : State) →
    closed_to o (record s { names = take n s.names; tags = take m s.tags }) ≡ closed_to (Some (lower o n m)) s
closed-within None n m s = refl
closed-within (Some p) n m s = λ i. record s { names = take-lower p.0 n s.names i; tags = take-lower p.1 m s.tags i }

-- a branch and then the others, in a scope of their own
abbrev pub within : Walk TExpr → Stated → Walk (List Branch × TStmt) → Walk (List Branch × TStmt)
within condition body rest = scoped (
    condition >>= λ k. scoped body >>= λ a. rest >>= λ r. both_asked k a (λ k a. asked r (λ r. give (branch k a ∷ r.0, r.1))))

abbrev pub in_scope : scopes.Around → State → scopes.Around
in_scope c s = record c { names_from = length s.names; tags_from = length s.tags }

-- what it says
abbrev within_said : Said Branch → Said (List Branch × TStmt) → State → Said (List Branch × TStmt)
within_said b r s = record { faults = b.faults ++ r.faults; given = consed b.given r.given; state = closed s r.state }

within-says : (condition : Walk TExpr) (body : Stated) (rest : Walk (List Branch × TStmt)) (c : scopes.Around) (s : State) →
    within condition body rest c s
    ≡ within_said (branch_row condition body (in_scope c s) s) (rest (in_scope c s) (branch_row condition body (in_scope c s) s).state) s
within-says condition body rest c s =
    let k = condition (in_scope c s) s in
    let a = scoped body (in_scope c s) k.state in
    let r = rest (in_scope c s) a.state in
    let last : Said (List Branch × TStmt) → Said (List Branch × TStmt) = λ l. record {
      faults = k.faults ++ (a.faults ++ (r.faults ++ l.faults));
      given = l.given;
      state = closed s l.state;
    } in
    let flat : k.faults ++ (a.faults ++ (r.faults ++ [])) ≡ (k.faults ++ (a.faults ++ [])) ++ r.faults = simp (append_assoc, append-nil) in
    ap last (conses k.given a.given r.given (in_scope c s) r.state)
    ∙ (λ i. record { faults = flat i; given = consed (both_branches k.given a.given) r.given; state = closed s r.state })

-- one branch further
pub elses_further : (all : Walk (List Branch × TStmt)) (outer inner : scopes.Around) (condition : Walk TExpr) (body : Stated) (rest : Walk (List Branch × TStmt))
    (old now new : Found) (branches : Option (List Branch)) (given : Option Branch) (opened : Opened) →
    ElsesLeft all outer (within condition body rest) inner old now branches opened →
    Gave (branch_row condition body (in_scope inner now.state) now.state) now new given →
    ElsesLeft all outer rest (in_scope inner now.state) old new (with_one branches given) (opened_by opened (length now.state.names) (length now.state.tags))
elses_further all outer inner condition body rest old now new branches given opened h g =
    let c = in_scope inner now.state in
    let b = branch_row condition body c now.state in
    let r = rest c b.state in
    let e = within-says condition body rest inner now.state in
    record {
      given =
          h.given
          ∙ ap (λ (x : Said (List Branch × TStmt)). before branches x.given) e
          ∙ before-consed branches b.given r.given
          ∙ ap (λ (o : Option Branch). before (with_one branches o) (rest c b.state).given) (sym g.is)
          ∙ ap (λ (s : State). before (with_one branches given) (rest c s).given) (sym g.state);
      faults =
          h.faults
          ∙ ap (λ (x : Said (List Branch × TStmt)). now.faults ++ x.faults) e
          ∙ sym (append_assoc now.faults b.faults r.faults)
          ∙ ap (λ (fs : List Fault). fs ++ r.faults) (sym g.faults)
          ∙ ap (λ (s : State). new.faults ++ (rest c s).faults) (sym g.state);
      state =
          h.state
          ∙ ap (λ (x : Said (List Branch × TStmt)). closed_all opened x.state) e
          ∙ closed-within opened.marks (length now.state.names) (length now.state.tags) r.state
          ∙ ap (λ (s : State). closed_all (opened_by opened (length now.state.names) (length now.state.tags)) (rest c s).state) (sym g.state);
    }

-- ---- the end of the `else`s

-- what is done where no condition holds, alone
abbrev pub alone : Option TStmt → Option (List Branch × TStmt)
alone (Some a) = Some ([], a)
alone None = None

abbrev pub lone : Option TStmt → Walk (List Branch × TStmt)
lone a = asked a (λ a. give ([], a))

-- an `else` without a condition is the last one
pub with_last : (body : Stated) (c : scopes.Around) (now new : Found) (a : Option TStmt) →
    Gave (scoped body c now.state) now new a → Gave ((scoped body >>= lone) c now.state) now new (alone a)
with_last body c now new (Some a) g = then (scoped body) lone c now new new (Some a) (Some ([], a)) g (gives ([], a) c new)
with_last body c now new None g = then (scoped body) lone c now new new None None g (asks_nothing c new)

-- there is no such `else`
pub with_none : (c : scopes.Around) (now : Found) → Gave ((empty [] >>= lone) c now.state) now now (Some ([], empty_block now.state []))
with_none c now = record { is = refl; faults = sym (append-nil now.faults); state = refl }

-- all scopes end
pub elses_ended : (all : Walk (List Branch × TStmt)) (outer inner : scopes.Around) (rest : Walk (List Branch × TStmt)) (old now mid new : Found)
    (branches : Option (List Branch)) (opened : Opened) (given : Option (List Branch × TStmt)) →
    ElsesLeft all outer rest inner old now branches opened → Gave (rest inner now.state) now mid given →
    new.faults ≡ mid.faults → new.state ≡ closed_all opened mid.state → Gave (all outer old.state) old new (before branches given)
elses_ended all outer inner rest old now mid new branches opened given h g e f = record {
  is = ap (before branches) g.is ∙ sym h.given;
  faults = e ∙ g.faults ∙ sym h.faults;
  state = f ∙ ap (closed_all opened) g.state ∙ sym h.state;
}
