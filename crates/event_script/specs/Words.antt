-- The words that lines begin with, and those of commands.
use Rattle.std.specs.Prelude.{ℕ, List, codes, find, Option, Result}
use Rattle.std.specs.Option.{ok_or}
use Rattle.std.specs.Str.{bytes_eq}
use Rattle.event_script.specs.declared.fault.Kind.{Kind}
use Rattle.event_script.specs.declared.fault.Kind.TheVariants as kind
use Rattle.event_script.specs.declared.words.Keyword.{Keyword}
use Rattle.event_script.specs.declared.words.Keyword.TheVariants as on
use Rattle.event_script.specs.declared.words.CallWord.{CallWord}
use Rattle.event_script.specs.declared.words.CallWord.TheVariants as call_on
use Rattle.event_script.specs.declared.words.CommandWord.{CommandWord}
use Rattle.event_script.specs.declared.words.CommandWord.TheVariants as command_on
-- all words of each kind
pub use Rattle.event_script.specs.declared.words.TheConstants.{KEYWORDS, CALL_WORDS, COMMAND_WORDS}

-- ---- the words of descriptions, legs, phases and threads

unfoldable pub keyword_text : Keyword → List ℕ
keyword_text on.Vcpus = codes "vcpus"
keyword_text on.Processors = codes "processors"
keyword_text on.Shards = codes "shards"
keyword_text on.Limits = codes "limits"
keyword_text on.Ids = codes "ids"
keyword_text on.Profile = codes "profile"
keyword_text on.Window = codes "window"
keyword_text on.Config = codes "config"
keyword_text on.Pending = codes "pending"
keyword_text on.Bytes = codes "bytes"
keyword_text on.Restore = codes "restore"
keyword_text on.Gicr = codes "gicr"
keyword_text on.Rrestore = codes "rrestore"
keyword_text on.FromKvm = codes "from-kvm"
keyword_text on.Linux = codes "linux"
keyword_text on.Track = codes "track"
keyword_text on.Pair = codes "pair"
keyword_text on.Brestore = codes "brestore"
keyword_text on.ItsBase = codes "its-base"
keyword_text on.BBase = codes "b-base"
keyword_text on.Requester = codes "requester"
keyword_text on.Phase = codes "phase"
keyword_text on.Thread = codes "thread"
keyword_text on.Migrate = codes "migrate"
keyword_text on.Precopy = codes "precopy"
keyword_text on.End = codes "end"
keyword_text on.Trace = codes "trace"
-- a call of the second translator follows
keyword_text on.Second = codes "b"

-- the keyword with a word
unfoldable pub keyword_of : List ℕ → Result Keyword Kind
keyword_of word = ok_or (find (λ k. bytes_eq (keyword_text k) word) KEYWORDS) kind.Word

-- ---- those of calls

unfoldable pub call_text : CallWord → List ℕ
call_text call_on.Signal = codes "signal"
call_text call_on.Take = codes "take"
call_text call_on.Show = codes "show"
call_text call_on.Best = codes "best"
call_text call_on.Claim = codes "claim"
call_text call_on.Poke = codes "poke"
call_text call_on.Word = codes "word"
call_text call_on.Command = codes "command"
call_text call_on.Peek = codes "peek"
call_text call_on.Read = codes "read"
call_text call_on.Write = codes "write"
call_text call_on.Rread = codes "rread"
call_text call_on.Rwrite = codes "rwrite"
call_text call_on.Step = codes "step"
call_text call_on.Save = codes "save"
call_text call_on.Copy = codes "copy"
call_text call_on.Dma = codes "dma"

-- what a line with this word calls, if it is a call's
unfoldable pub call_word_of : List ℕ → Option CallWord
call_word_of word = find (λ w. bytes_eq (call_text w) word) CALL_WORDS

-- ---- those of commands

unfoldable pub command_text : CommandWord → List ℕ
command_text command_on.Mapd = codes "mapd"
command_text command_on.Unmapd = codes "unmapd"
command_text command_on.Mapc = codes "mapc"
command_text command_on.Unmapc = codes "unmapc"
command_text command_on.Mapti = codes "mapti"
command_text command_on.Mapi = codes "mapi"
command_text command_on.Movi = codes "movi"
command_text command_on.Movall = codes "movall"
command_text command_on.Int = codes "int"
command_text command_on.Clear = codes "clear"
command_text command_on.Discard = codes "discard"
command_text command_on.Inv = codes "inv"
command_text command_on.Invall = codes "invall"
command_text command_on.Sync = codes "sync"

unfoldable pub command_word_of : List ℕ → Result CommandWord Kind
command_word_of word = ok_or (find (λ w. bytes_eq (command_text w) word) COMMAND_WORDS) kind.Fields
