-- Lists of links with their fates, as one more is added.
use Rattle.std.proofs.Common.{◌≡◌, ◌⊎◌, inl, inr, ⊎_elim, ℕ, ◌+◌, ◌≤◌, min, List, [], ◌∷◌, ◌++◌, length, length-append, append_assoc, refl, sym, ap, subst, ◌∙◌, arith}
use Rattle.std.proofs.lemmas.List.{append-nil}
use Rattle.ovs_links.specs.Sets.{Among}
use Rattle.ovs_links.specs.declared.link.Link.{Link}
use Rattle.ovs_node.specs.declared.refused.RefusedLink.{RefusedLink}
use Rattle.ovs_node.specs.Ledger.{Fate, Taken, Repeated, Against, NoRoom, IsFate, AreFates, all_told_as, fork_as, forks_in, short_as, shorts_in, taken_of, told_as}

-- ---- among

pub among_left : (xs ys : List Link) (l : Link) → Among xs l → Among (xs ++ ys) l
among_left [] ys l h = absurd h
among_left (x ∷ xs) ys l (inl e) = inl e
among_left (x ∷ xs) ys l (inr h) = inr (among_left xs ys l h)

pub among_right : (xs ys : List Link) (l : Link) → Among ys l → Among (xs ++ ys) l
among_right [] ys l h = h
among_right (x ∷ xs) ys l h = inr (among_right xs ys l h)

pub among_either : (xs ys : List Link) (l : Link) → Among (xs ++ ys) l → Among xs l ⊎ Among ys l
among_either [] ys l h = inr h
among_either (x ∷ xs) ys l (inl e) = inl (inl e)
among_either (x ∷ xs) ys l (inr h) = ⊎_elim (λ (a : Among xs l). inl (inr a)) (λ (a : Among ys l). inr a) (among_either xs ys l h)

-- ---- one more

fate_weaker : (all more : List Link) (l : Link) (f : Fate) → IsFate all l f → IsFate (all ++ more) l f
fate_weaker all more l Taken is = among_left all more l is
fate_weaker all more l Repeated is = among_left all more l is
fate_weaker all more l (Against held) is = (among_left all more held is.0, is.1)
fate_weaker all more l NoRoom is = let size = length-append all more in omega (arith, is, size)

fates_weaker : (all more ls : List Link) (fs : List Fate) → AreFates all ls fs → AreFates (all ++ more) ls fs
fates_weaker all more [] [] are = tt
fates_weaker all more [] (f ∷ fs) are = absurd are
fates_weaker all more (l ∷ ls) [] are = absurd are
fates_weaker all more (l ∷ ls) (f ∷ fs) are = (fate_weaker all more l f are.0, fates_weaker all more ls fs are.1)

fates_snoc : (all ls : List Link) (fs : List Fate) (l : Link) (f : Fate) → AreFates all ls fs → IsFate all l f → AreFates all (ls ++ l ∷ []) (fs ++ f ∷ [])
fates_snoc all [] [] l f are is = (is, tt)
fates_snoc all [] (g ∷ fs) l f are is = absurd are
fates_snoc all (x ∷ xs) [] l f are is = absurd are
fates_snoc all (x ∷ xs) (g ∷ fs) l f are is = (are.0, fates_snoc all xs fs l f are.1 is)

pub taken_and : (all ls : List Link) (fs : List Fate) (l : Link) (f : Fate) → AreFates all ls fs → taken_of (ls ++ l ∷ []) (fs ++ f ∷ []) ≡ taken_of ls fs ++ taken_of (l ∷ []) (f ∷ [])
taken_and all [] [] l f are = refl
taken_and all [] (g ∷ fs) l f are = absurd are
taken_and all (x ∷ xs) [] l f are = absurd are
taken_and all (x ∷ xs) (Taken ∷ fs) l f are = ap (λ (ys : List Link). x ∷ ys) (taken_and all xs fs l f are.1)
taken_and all (x ∷ xs) (Repeated ∷ fs) l f are = taken_and all xs fs l f are.1
taken_and all (x ∷ xs) (Against h ∷ fs) l f are = taken_and all xs fs l f are.1
taken_and all (x ∷ xs) (NoRoom ∷ fs) l f are = taken_and all xs fs l f are.1

pub told_and : (all ls : List Link) (fs : List Fate) (l : Link) (f : Fate) → AreFates all ls fs → all_told_as (ls ++ l ∷ []) (fs ++ f ∷ []) ≡ all_told_as ls fs ++ told_as l f
told_and all [] [] l f are = append-nil (told_as l f)
told_and all [] (g ∷ fs) l f are = absurd are
told_and all (x ∷ xs) [] l f are = absurd are
told_and all (x ∷ xs) (g ∷ fs) l f are =
    ap (λ ts. told_as x g ++ ts) (told_and all xs fs l f are.1) ∙ sym (append_assoc (told_as x g) (all_told_as xs fs) (told_as l f))

-- with the link that is taken last, if it is
pub fates_and : (ls : List Link) (fs : List Fate) (l : Link) (f : Fate) → AreFates (taken_of ls fs) ls fs → IsFate (taken_of ls fs ++ taken_of (l ∷ []) (f ∷ [])) l f
    → AreFates (taken_of (ls ++ l ∷ []) (fs ++ f ∷ [])) (ls ++ l ∷ []) (fs ++ f ∷ [])
fates_and ls fs l f are is =
    subst (λ (all : List Link). AreFates all (ls ++ l ∷ []) (fs ++ f ∷ [])) (sym (taken_and (taken_of ls fs) ls fs l f are))
    (fates_snoc (taken_of ls fs ++ taken_of (l ∷ []) (f ∷ [])) ls fs l f (fates_weaker (taken_of ls fs) (taken_of (l ∷ []) (f ∷ [])) ls fs are) is)

-- ---- counts

pub forks_and : (rs ss : List RefusedLink) → forks_in (rs ++ ss) ≡ forks_in rs + forks_in ss
forks_and [] ss = omega arith
forks_and (r ∷ rs) ss = let e = forks_and rs ss in omega (arith, e)

pub shorts_and : (rs ss : List RefusedLink) → shorts_in (rs ++ ss) ≡ shorts_in rs + shorts_in ss
shorts_and [] ss = omega arith
shorts_and (r ∷ rs) ss = let e = shorts_and rs ss in omega (arith, e)

pub on_from : (n m k j last : ℕ) → n ≡ min m last → j ≡ m + k → min (n + k) last ≡ min j last
on_from n m k j last e f = omega (arith, e, f)

-- those that were taken came
pub taken_came : (ls : List Link) (fs : List Fate) (l : Link) → Among (taken_of ls fs) l → Among ls l
taken_came [] fs l a = absurd a
taken_came (x ∷ xs) [] l a = absurd a
taken_came (x ∷ xs) (Taken ∷ fs) l (inl e) = inl e
taken_came (x ∷ xs) (Taken ∷ fs) l (inr a) = inr (taken_came xs fs l a)
taken_came (x ∷ xs) (Repeated ∷ fs) l a = inr (taken_came xs fs l a)
taken_came (x ∷ xs) (Against h ∷ fs) l a = inr (taken_came xs fs l a)
taken_came (x ∷ xs) (NoRoom ∷ fs) l a = inr (taken_came xs fs l a)

-- where none was refused, all that came were taken
pub came_taken : (all ls : List Link) (fs : List Fate) → AreFates all ls fs → forks_in (all_told_as ls fs) ≡ 0 → shorts_in (all_told_as ls fs) ≡ 0 → (l : Link) → Among ls l → Among all l
came_taken all [] fs are forks shorts l a = absurd a
came_taken all (x ∷ xs) [] are forks shorts l a = absurd are
came_taken all (x ∷ xs) (Taken ∷ fs) are forks shorts l (inl e) = subst (λ y. Among all y) (sym e) are.0
came_taken all (x ∷ xs) (Taken ∷ fs) are forks shorts l (inr a) = came_taken all xs fs are.1 forks shorts l a
came_taken all (x ∷ xs) (Repeated ∷ fs) are forks shorts l (inl e) = subst (λ y. Among all y) (sym e) are.0
came_taken all (x ∷ xs) (Repeated ∷ fs) are forks shorts l (inr a) = came_taken all xs fs are.1 forks shorts l a
came_taken all (x ∷ xs) (Against h ∷ fs) are forks shorts l a = absurd (omega (arith, forks))
came_taken all (x ∷ xs) (NoRoom ∷ fs) are forks shorts l a = absurd (omega (arith, shorts))
