use Rattle.dc_cli.proofs.PromiseLemmas.{RefusesOtherWords-run, PrintsSums-run, Completes-run, AsksInOrder-run, KeepsFiles-run, PrintsOnlyWhenDone-run, MissesTheAbsent-run, RefusesTheLong-run, RefusesTheMalformed-run, TellsTheFault-run, TellsTheLast-run, HasCauses-run, WritesKeys-run, WritesSeeds-run, WritesPads-run, MakesFiles-run, PrintsView-run, PrintsLogs-run, RunsNets-run, RunsLogs-run, AltersNets-run, PrintsSummary-run, RunsTrials-run}
use Rattle.dc_live_rules.proofs.RecordedWords.{recorded-live}
use Rattle.dc_cli.proofs.LiveLemmas.{AsksWire-run, PlaysStations-run, CompletesStations-run, HostsSessions-run, CompletesHubs-run, SessionsAreRuns-run}
use Rattle.dc_cli.proofs.TheoremLemmas.{IsUntraceable-run, IsSteerable-run, WritesTwin-run, WritesSteering-run, DeliversMessages-run}
use Rattle.dc_cli.proofs.top.dcnet.Goals as goal

pub returns-clause-words : goal.returns-clause-words
returns-clause-words g c = RefusesOtherWords-run _ c.run-outcome.ensures

pub returns-clause-sums : goal.returns-clause-sums
returns-clause-sums g c = PrintsSums-run _ c.run-outcome.ensures

pub returns-clause-complete : goal.returns-clause-complete
returns-clause-complete g c = Completes-run _ c.run-outcome.ensures

pub returns-clause-asked : goal.returns-clause-asked
returns-clause-asked g c = AsksInOrder-run _ c.run-outcome.ensures

pub returns-clause-kept : goal.returns-clause-kept
returns-clause-kept g c = KeepsFiles-run _ c.run-outcome.ensures

pub returns-clause-silent : goal.returns-clause-silent
returns-clause-silent g c = PrintsOnlyWhenDone-run _ c.run-outcome.ensures

pub returns-clause-missing : goal.returns-clause-missing
returns-clause-missing g c = MissesTheAbsent-run _ c.run-outcome.ensures

pub returns-clause-too_long : goal.returns-clause-too_long
returns-clause-too_long g c = RefusesTheLong-run _ c.run-outcome.ensures

pub returns-clause-malformed : goal.returns-clause-malformed
returns-clause-malformed g c = RefusesTheMalformed-run _ c.run-outcome.ensures

pub returns-clause-fault : goal.returns-clause-fault
returns-clause-fault g c = TellsTheFault-run _ c.run-outcome.ensures

pub returns-clause-causes : goal.returns-clause-causes
returns-clause-causes g c = HasCauses-run _ c.run-outcome.ensures

pub returns-clause-last : goal.returns-clause-last
returns-clause-last g c = TellsTheLast-run _ c.run-outcome.ensures

pub returns-clause-keys : goal.returns-clause-keys
returns-clause-keys g c = WritesKeys-run _ c.run-outcome.ensures

pub returns-clause-seeds : goal.returns-clause-seeds
returns-clause-seeds g c = WritesSeeds-run _ c.run-outcome.ensures

pub returns-clause-pads : goal.returns-clause-pads
returns-clause-pads g c = WritesPads-run _ c.run-outcome.ensures

pub returns-clause-makes : goal.returns-clause-makes
returns-clause-makes g c = MakesFiles-run _ c.run-outcome.ensures

pub returns-clause-view : goal.returns-clause-view
returns-clause-view g c = PrintsView-run _ c.run-outcome.ensures

pub returns-clause-nets : goal.returns-clause-nets
returns-clause-nets g c = RunsNets-run _ c.run-outcome.ensures

pub returns-clause-logs : goal.returns-clause-logs
returns-clause-logs g c = PrintsLogs-run _ c.run-outcome.ensures

pub returns-clause-log_nets : goal.returns-clause-log_nets
returns-clause-log_nets g c = RunsLogs-run _ c.run-outcome.ensures

pub returns-clause-alters : goal.returns-clause-alters
returns-clause-alters g c = AltersNets-run _ c.run-outcome.ensures

pub returns-clause-trial : goal.returns-clause-trial
returns-clause-trial g c = PrintsSummary-run _ c.run-outcome.ensures

pub returns-clause-trials : goal.returns-clause-trials
returns-clause-trials g c = RunsTrials-run _ c.run-outcome.ensures

pub returns-clause-untraceable : goal.returns-clause-untraceable
returns-clause-untraceable g c = IsUntraceable-run _ c.run-outcome.ensures

pub returns-clause-steerable : goal.returns-clause-steerable
returns-clause-steerable g c = IsSteerable-run _ c.run-outcome.ensures

pub returns-clause-twin : goal.returns-clause-twin
returns-clause-twin g c = WritesTwin-run _ c.run-outcome.ensures

pub returns-clause-steering : goal.returns-clause-steering
returns-clause-steering g c = WritesSteering-run _ c.run-outcome.ensures

pub returns-clause-delivers : goal.returns-clause-delivers
returns-clause-delivers g c = DeliversMessages-run _ c.run-outcome.ensures

pub returns-clause-wires : goal.returns-clause-wires
returns-clause-wires g c = AsksWire-run _ c.run-outcome.ensures

pub returns-clause-plays : goal.returns-clause-plays
returns-clause-plays g c = PlaysStations-run _ c.run-outcome.ensures

pub returns-clause-stations : goal.returns-clause-stations
returns-clause-stations g c = CompletesStations-run _ c.run-outcome.ensures

pub returns-clause-hosts : goal.returns-clause-hosts
returns-clause-hosts g c = HostsSessions-run _ c.run-outcome.ensures

pub returns-clause-hubs : goal.returns-clause-hubs
returns-clause-hubs g c = CompletesHubs-run _ c.run-outcome.ensures

pub returns-clause-live : goal.returns-clause-live
returns-clause-live g c = SessionsAreRuns-run _ recorded-live c.run-outcome.ensures
