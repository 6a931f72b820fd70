-- One turn of a loop over a list of walks, and what is left behind it.
-- Of items that are gathered, kept where each is given, or members: the rounds cite these lemmas.
use Rattle.std.specs.Prelude.{◌≡◌, List, [], ◌∷◌, ◌++◌, Option, Some, None, refl}
use Rattle.std.specs.Option.{option_map}
use Rattle.std.proofs.Common.{ap, append_assoc, append-nil}
use Rattle.c_typing.specs.Scopes.{Walk, give, offer, ◌>>=◌, asked, joined, in_row}
use Rattle.c_typing.specs.Declarators.{Members, all_members}
use Rattle.c_type_trees.specs.Lists.{one_more, both_joined, all_in_row}
use Rattle.c_type_trees.proofs.After.{Same, same_then, bind_assoc, bind_right, bind_offer}

-- ---- items that are kept, behind those that were

abbrev pub gathered : {A : Type 0} → List A → Option (List A) → Walk (List A)
gathered done rest = asked rest (λ rest. give (done ++ rest))

gather_at : {A : Type 0} (done : List A) (a : A) (rest : Option (List A))
    → Same (asked rest (λ rest. give (a ∷ rest)) >>= gathered done) (gathered (done ++ a ∷ []) rest)
gather_at done a None = record { at = λ c s. refl }
gather_at done a (Some rest) = record { at = λ c s. rw append_assoc refl }

pub gather_step : {A B : Type 0} (w : Walk A) (ws : Walk (List B)) (item : Option A → B) (done : List B)
    → Same ((w >>= λ a. ws >>= λ rest. asked rest (λ rest. give (item a ∷ rest))) >>= gathered done)
    (w >>= λ a. ws >>= gathered (done ++ item a ∷ []))
gather_step w ws item done =
    same_then _ _ _ (bind_assoc w (λ a. ws >>= λ rest. asked rest (λ rest. give (item a ∷ rest))) (gathered done))
    (bind_right w _ _ (λ a. same_then _ _ _ (bind_assoc ws (λ rest. asked rest (λ rest. give (item a ∷ rest))) (gathered done)) (bind_right ws _ _ (gather_at done (item a)))))

gathered_none : {A : Type 0} (rest : Option (List A)) → Same (gathered [] rest) (offer rest)
gathered_none None = record { at = λ c s. refl }
gathered_none (Some rest) = record { at = λ c s. refl }

pub gathered_first : {A : Type 0} (ws : Walk (List A)) → Same (ws >>= gathered []) ws
gathered_first ws = same_then _ _ _ (bind_right ws (gathered []) offer gathered_none) (bind_offer ws)

pub gathered_last : {A : Type 0} (done : List A) → Same (give [] >>= gathered done) (offer (Some done))
gathered_last done = record { at = λ c s. ap (λ xs. give xs c s) (append-nil done) }

-- ---- items that are kept where each of them is given

abbrev pub kept : {A : Type 0} → Option (List A) → Option (List A) → Walk (List A)
kept done rest = offer (both_joined done rest)

keep_equal : {A : Type 0} (done : Option (List A)) (a : Option A) (rest : Option (List A))
    → both_joined done (joined a rest) ≡ both_joined (one_more done a) rest
keep_equal None None rest = refl
keep_equal None (Some a) None = refl
keep_equal None (Some a) (Some rest) = refl
keep_equal (Some done) None rest = refl
keep_equal (Some done) (Some a) None = refl
keep_equal (Some done) (Some a) (Some rest) = rw append_assoc refl

keep_at : {A : Type 0} (done : Option (List A)) (a : Option A) (rest : Option (List A))
    → Same (offer (joined a rest) >>= kept done) (kept (one_more done a) rest)
keep_at done a rest = record { at = λ c s. rw (keep_equal done a rest) refl }

pub keep_step : {A : Type 0} (w : Walk A) (ws : Walk (List A)) (done : Option (List A))
    → Same ((w >>= λ a. ws >>= λ rest. offer (joined a rest)) >>= kept done) (w >>= λ a. ws >>= kept (one_more done a))
keep_step w ws done =
    same_then _ _ _ (bind_assoc w (λ a. ws >>= λ rest. offer (joined a rest)) (kept done))
    (bind_right w _ _ (λ a. same_then _ _ _ (bind_assoc ws (λ rest. offer (joined a rest)) (kept done)) (bind_right ws _ _ (keep_at done a))))

joined_none : {A : Type 0} (rest : Option (List A)) → both_joined (Some []) rest ≡ rest
joined_none None = refl
joined_none (Some rest) = refl

kept_none : {A : Type 0} (rest : Option (List A)) → Same (kept (Some []) rest) (offer rest)
kept_none rest = record { at = λ c s. rw (joined_none rest) refl }

pub kept_first : {A : Type 0} (ws : Walk (List A)) → Same (ws >>= kept (Some [])) ws
kept_first ws = same_then _ _ _ (bind_right ws (kept (Some [])) offer kept_none) (bind_offer ws)

joined_last : {A : Type 0} (done : Option (List A)) → both_joined done (Some []) ≡ done
joined_last None = refl
joined_last (Some done) = rw append-nil refl

pub kept_last : {A : Type 0} (done : Option (List A)) → Same (give [] >>= kept done) (offer done)
kept_last done = record { at = λ c s. rw (joined_last done) refl }

-- ---- members, of which each walk gives some

abbrev pub members_kept : Option Members → Option (List Members) → Walk Members
members_kept done rest = offer (both_joined done (option_map all_members rest))

members_equal : (done : Option Members) (a : Option Members) (rest : Option (List Members))
    → both_joined done (option_map all_members (joined a rest)) ≡ both_joined (both_joined done a) (option_map all_members rest)
members_equal None None rest = refl
members_equal None (Some a) None = refl
members_equal None (Some a) (Some rest) = refl
members_equal (Some done) None rest = refl
members_equal (Some done) (Some a) None = refl
members_equal (Some done) (Some a) (Some rest) = rw append_assoc refl

members_at : (done : Option Members) (a : Option Members) (rest : Option (List Members))
    → Same (offer (joined a rest) >>= members_kept done) (members_kept (both_joined done a) rest)
members_at done a rest = record { at = λ c s. rw (members_equal done a rest) refl }

pub members_step : (w : Walk Members) (ws : List (Walk Members)) (done : Option Members)
    → Same (in_row (w ∷ ws) >>= members_kept done) (w >>= λ a. in_row ws >>= members_kept (both_joined done a))
members_step w ws done =
    same_then _ _ _ (bind_assoc w (λ a. in_row ws >>= λ rest. offer (joined a rest)) (members_kept done))
    (bind_right w _ _ (λ a. same_then _ _ _ (bind_assoc (in_row ws) (λ rest. offer (joined a rest)) (members_kept done)) (bind_right (in_row ws) _ _ (members_at done a))))

members_none : (rest : Option (List Members)) → Same (members_kept (Some []) rest) (offer (option_map all_members rest))
members_none None = record { at = λ c s. refl }
members_none (Some rest) = record { at = λ c s. refl }

pub members_first : (ws : List (Walk Members)) → Same (in_row ws >>= members_kept (Some [])) (all_in_row ws)
members_first ws = bind_right (in_row ws) _ _ members_none

pub members_last : (done : Option Members) → Same (in_row [] >>= members_kept done) (offer done)
members_last done = record { at = λ c s. rw (joined_last done) refl }
