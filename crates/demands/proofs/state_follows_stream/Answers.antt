use Rattle.demands.proofs.ChainLaws as Steps
use Rattle.demands.proofs.StoredListLaws as Loads
use Rattle.demands.proofs.state_follows_stream.Goals as goal

pub returns : goal.returns
returns c = record {
  turns_are = Steps.calls_are;
  stream_is = Steps.held-is;
  loads_are = λ offers state long. (Loads.calls_are offers state long).0;
  stream_of_loads = λ offers state long. (Loads.calls_are offers state long).1;
  fresh_turns_are = λ N state made offers. Steps.fresh-calls N state made offers;
  fresh_stream_is = λ N state made offers. Steps.fresh-held N state made offers;
  fresh_loads_are = λ N state made offers. Loads.load_calls_are N state made offers;
  fresh_stream_of_loads = λ N state made offers. Loads.load_held_is N state made offers;
}
