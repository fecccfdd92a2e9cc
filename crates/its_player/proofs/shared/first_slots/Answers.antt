use Rattle.std.proofs.Common.{◌≡◌, ℕ, suc, ◌+◌, ◌*◌, List, [], ◌∷◌, ◌++◌, length, map, replicate, Option, Some, ap, ◌∙◌, arith, append_assoc, suc-mul}
use Rattle.std.proofs.lemmas.List.{replicate-append-replicate}
use Rattle.its_plain.specs.Plain.{Translator, Redistributor, conf_of, pend_of}
use Rattle.plain_machine.specs.Memories.{Memories}
use Rattle.xlate_cache.specs.Ways.{no_entries}
use Rattle.its_player.specs.declared.content.Content.{Content}
use Rattle.its_player.specs.declared.content.Content.TheVariants.{Maps, Mem, Shard, Conf, Pend}
use Rattle.its_player.proofs.shared.first_slots.Goals as goal

abbrev X : Option Content
X = Some (Shard no_entries)

row_more : (i n : ℕ) → i * n + n ≡ (i + 1) * n
row_more i n = let s : suc i ≡ i + 1 = omega arith in (let e : i * n + n ≡ suc i * n = omega (arith, suc-mul i n) in e ∙ ap (λ (k : ℕ). k * n) s)

shards_more : (base : List (Option Content)) (slots new : List (Option Content)) (i n : ℕ) → slots ≡ base ++ replicate (i * n) X → new ≡ slots ++ replicate n X
    → new ≡ base ++ replicate ((i + 1) * n) X
shards_more base slots new i n e f =
    f ∙ (ap (λ (l : List (Option Content)). l ++ replicate n X) e ∙ (append_assoc base (replicate (i * n) X) (replicate n X)
    ∙ ap (λ (l : List (Option Content)). base ++ l) (replicate-append-replicate (i * n) n X ∙ ap (λ (k : ℕ). replicate k X) (row_more i n))))

pub loop-translator-preserved : goal.loop-translator-preserved
loop-translator-preserved c = shards_more c.push.new.self.items c.loop-translator.slots.items c.add_shards.new.slots.items c.loop-translator._translator-index
    c.args.shards c.loop-translator.invariant c.in_ok-add_shards.ensures

all_slots : (maps shards redists : List (Option Content)) (mem : Option Content) (none first pushed looped all : List (Option Content)) → none ≡ []
    → first ≡ none ++ maps → pushed ≡ first ++ mem ∷ [] → looped ≡ pushed ++ shards → all ≡ looped ++ redists → all ≡ maps ++ (mem ∷ (shards ++ redists))
all_slots maps shards redists mem none first pushed looped all a b p l e =
    e ∙ ((λ d. (l ∙ ap (λ (x : List (Option Content)). x ++ shards) (p ∙ ap (λ (x : List (Option Content)). x ++ mem ∷ [])
    (b ∙ ap (λ (x : List (Option Content)). x ++ maps) a))) d ++ redists)
    ∙ (append_assoc (maps ++ mem ∷ []) shards redists ∙ append_assoc maps (mem ∷ []) (shards ++ redists)))

-- the redistributors' parts are added one kind after the other
both_added : (looped more all confs pends : List (Option Content)) → more ≡ looped ++ confs → all ≡ more ++ pends → all ≡ looped ++ (confs ++ pends)
both_added looped more all confs pends m e = e ∙ (ap (λ (l : List (Option Content)). l ++ pends) m ∙ append_assoc looped confs pends)

pub returns : goal.returns
returns c =
    let confs : List (Option Content) = map (λ r. Some (Conf (conf_of r))) c.args.start.now.redistributors in
    let pends : List (Option Content) = map (λ r. Some (Pend (pend_of r))) c.args.start.now.redistributors in
    let short = c.loop-translator-test.false in
    let high = c.loop-translator.auto._translator-index-end in
    let count : c.loop-translator._translator-index ≡ length c.args.start.now.translators = omega (arith, ap length c.translators-translator-items.ensures) in
    all_slots (map (λ t. Some (Maps t)) c.args.start.now.translators) (replicate (length c.args.start.now.translators * c.args.shards) X)
    (confs ++ pends) (Some (Mem (record { memory = c.args.start.now.memory; track = c.args.start.now.track })))
    c.new-slots.result.items c.add_maps.new.slots.items c.push.new.self.items c.loop-translator.slots.items c.add_pends.new.slots.items
    c.new-slots.ensures.items
    (c.in_ok-add_maps.ensures ∙ ap (λ (l : List Translator). c.new-slots.result.items ++ map (λ t. Some (Maps t)) l) c.translators.ensures)
    (c.in_ok-push.ensures.items ∙ ap (λ (m : Memories). c.add_maps.new.slots.items ++ Some (Mem m) ∷ []) (c.in_ok-copy.ensures ∙ c.memory.ensures))
    (c.loop-translator.invariant ∙ ap (λ (k : ℕ). c.push.new.self.items ++ replicate (k * c.args.shards) X) count)
    (both_added c.loop-translator.slots.items c.add_confs.new.slots.items c.add_pends.new.slots.items confs pends
    (c.in_ok-add_confs.ensures
    ∙ ap (λ (l : List Redistributor). c.loop-translator.slots.items ++ map (λ r. Some (Conf (conf_of r))) l) c.redistributors.ensures)
    (c.in_ok-add_pends.ensures
    ∙ ap (λ (l : List Redistributor). c.add_confs.new.slots.items ++ map (λ r. Some (Pend (pend_of r))) l) c.redistributors-2.ensures))
