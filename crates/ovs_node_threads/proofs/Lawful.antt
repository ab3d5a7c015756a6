-- A lawful stream stands for links of its history.
use Rattle.std.proofs.Common.{◌≡◌, ℕ, ◌<◌, ◌≤◌, zero, suc, List, [], ◌∷◌, ◌++◌, ⊎_elim, inl, inr, take, drop, map, Some, refl, ap, sym, ◌∙◌, subst, arith, append-nil}
use Rattle.std.proofs.lemmas.Bool.{cases_lt}
use Rattle.std.specs.List.{AllZip}
use Rattle.ovs_types.specs.Schema.{SchemaValue}
use Rattle.ovs_types.specs.declared.schema.Table.{Table}
use Rattle.ovs_links.specs.Epochs.{Epoch, EpochHistory, IsEpochHistory, IsEpochIn, epochs_of, links_in, links_within}
use Rattle.ovs_links.specs.Sets.{AllOf, Among}
use Rattle.ovs_links.specs.declared.link.Link.{Link}
use Rattle.ovs_links.proofs.ChainLemmas.{AllOf-weaker}
use Rattle.ovs_links.proofs.EpochLemmas.{Among-left, Among-right, epoch_good}
use Rattle.ovs_wire.specs.Frames.{Ending, Rest, AreFrames}
use Rattle.ovs_wire.specs.Message.{Says}
use Rattle.ovs_wire.specs.declared.message.Message.{Message}
use Rattle.ovs_wire.proofs.Larger.{frames_too, frames_first}
use Rattle.ovs_wire.proofs.Spelling.{one_message}
use Rattle.ovs_wire.proofs.Unique.{once}
use Rattle.ovs_upstream.specs.Hearing.{opening}
use Rattle.ovs_upstream.specs.Lawful.{LawfulTalk, IsLawfulOf, IsStreamOf}
use Rattle.ovs_upstream.specs.Talk.{Talk, talk_of}
use Rattle.ovs_upstream.proofs.Quiet.{all_quiet}
use Rattle.ovs_upstream.proofs.Runs.{derived_lawful, front_lawful}
use Rattle.ovs_upstream.proofs.Streams.{history_line, map_append}
use Rattle.ovs_follow.specs.Deriving.{AreDerived, AreRead}
use Rattle.ovs_node_threads.specs.Lines.{AdmitsBytes, AmongHistory}

all_among : (xs : List Link) → AllOf (Among xs) xs
all_among [] = tt
all_among (x ∷ xs) = (inl refl, AllOf-weaker (Among xs) (Among (x ∷ xs)) (λ l a. inr a) xs (all_among xs))

all_taken : (S : Link → Type 0) (n : ℕ) (xs : List Link) → AllOf S xs → AllOf S (take n xs)
all_taken S zero xs all = tt
all_taken S (suc n) [] all = tt
all_taken S (suc n) (x ∷ xs) all = (all.0, all_taken S n xs all.1)

all_dropped : (S : Link → Type 0) (n : ℕ) (xs : List Link) → AllOf S xs → AllOf S (drop n xs)
all_dropped S zero xs all = all
all_dropped S (suc n) [] all = tt
all_dropped S (suc n) (x ∷ xs) all = all_dropped S n xs all.1

-- what all are if something holds
AllOf-if : (P : Type 0) (S : Link → Type 0) (ls : List Link) → (P → AllOf S ls) → AllOf (λ l. P → S l) ls
AllOf-if P S [] all = tt
AllOf-if P S (l ∷ ls) all = (λ p. (all p).0, AllOf-if P S ls (λ p. (all p).1))

within : (tables : List Table) (es : List Epoch) (e : Epoch) (l : Link) → IsEpochIn es e → Among (links_within tables e) l → Among (links_in tables es) l
within tables [] e l is a = absurd is
within tables (d ∷ es) e l (inl same) a =
    Among-left (links_within tables d) (links_in tables es) l (subst (λ (x : Epoch). Among (links_within tables x) l) same a)
within tables (d ∷ es) e l (inr is) a = Among-right (links_within tables d) (links_in tables es) l (within tables es e l is a)

-- of the texts that say messages the first say the first
read_first : (ts more : List (List ℕ)) (said ms : List Message) → AllZip Says (ts ++ more) said → AreRead ts ms
    → (later : List Message) × (said ≡ ms ++ later)
read_first [] more said ms all read = (said, ap (λ l. l ++ said) (sym read))
read_first (t ∷ ts) more [] ms all read = absurd all
read_first (t ∷ ts) more (n ∷ said) [] all read = absurd (read n all.0)
read_first (t ∷ ts) more (n ∷ said) (m ∷ ms) all read =
    let later = read_first ts more said ms all.1 read.1 in
    (later.0, λ i. one_message t n m all.0 read.0 i ∷ later.1 i)

module _ (schema : SchemaValue) (h : EpochHistory) (most asked : ℕ) (said : List Message) (stream : List ℕ) (history : IsEpochHistory schema.description.tables h)
    (lawful : IsLawfulOf schema.description (epochs_of h) asked said) (is : IsStreamOf most said stream) where
  -- whichever the limit of a message is, what is framed are the first of the texts
  first_texts : (other : ℕ) (texts : List (List ℕ)) (ending : Ending) → AreFrames other stream texts ending
      → (more : List (List ℕ)) × (is.texts ≡ texts ++ more)
  first_texts other texts ending frames = ⊎_elim
      (λ (lt : most < other).
      let same = once stream texts is.texts ending (Rest is.rest) frames
      (frames_too stream is.texts (Rest is.rest) (omega arith) is.frames (λ e. cc)) in
      ([], sym same.0 ∙ sym (append-nil texts)))
      (λ (le : other ≤ most). frames_first stream texts is.texts ending (Rest is.rest) le frames is.frames)
      (cases_lt most other)

  -- and what was heard are the first of the messages
  first_said : (other : ℕ) (links : List Link) → (d : AreDerived other (opening schema asked) stream links)
      → (later : List Message) × (said ≡ d.messages ++ later)
  first_said other links d =
      let first = first_texts other d.texts d.ending d.frames in
      read_first d.texts first.0 said d.messages (subst (λ (ts : List (List ℕ)). AllZip Says ts said) first.1 is.said) d.read

  of_epoch : (other : ℕ) (links : List Link) → AreDerived other (opening schema asked) stream links
      → AllOf (Among (links_within schema.description.tables lawful.0)) links
  of_epoch other links d =
      let ls = links_within schema.description.tables lawful.0 in
      let good = epoch_good schema.description.tables h lawful.0 history lawful.1 in
      let later = first_said other links d in
      let front = front_lawful schema.description ls asked (map talk_of d.messages) (map talk_of later.0)
      (subst (λ (ts : List Talk). LawfulTalk schema.description ls asked ts) (map_append d.messages later.0)
      (subst (λ (ms : List Message). LawfulTalk schema.description ls asked (map talk_of ms)) later.1 lawful.2)) in
      let part = derived_lawful (opening schema asked) ls (map talk_of d.messages) refl (history_line schema.description.tables lawful.0.start lawful.0.commits good.below good.history)
      (all_quiet d.messages) front in
      let first : AllOf (Among ls) (take part.1 (drop part.0 ls)) = all_taken (Among ls) part.1 (drop part.0 ls) (all_dropped (Among ls) part.0 ls (all_among ls)) in
      subst (AllOf (Among ls)) (sym (d.are ∙ part.2)) first

  pub lawful_admits : AdmitsBytes (AmongHistory schema h) asked (Some stream)
  lawful_admits other read links derives =
      AllOf-if (read ≡ schema) (Among (links_in schema.description.tables (epochs_of h))) links (λ (same : read ≡ schema).
      AllOf-weaker (Among (links_within schema.description.tables lawful.0)) (Among (links_in schema.description.tables (epochs_of h)))
      (λ l a. within schema.description.tables (epochs_of h) lawful.0 l lawful.1 a) links
      (of_epoch other links (subst (λ (s : SchemaValue). AreDerived other (opening s asked) stream links) same derives)))
